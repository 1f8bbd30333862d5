use Rattle.ve_formats.proofs.TextLines.{lines_of-text_of_lines}
use Rattle.ve_formats.proofs.lines.text_of_lines_has_them.Goals as goal

pub returns : goal.returns
returns c = lines_of-text_of_lines
