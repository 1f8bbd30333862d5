use Rattle.ve_lex.proofs.Runs.{is_run, prefix_len-le}
use Rattle.ve_lex.proofs.bytes.split_digits.Goals as goal

pub split_at-requires : goal.split_at-requires
split_at-requires c = prefix_len-le _ _ _ c.digit_count.ensures

pub returns : goal.returns
returns c = is_run _ _ _ _ _ c.digit_count.ensures c.split_at.ensures.front c.split_at.ensures.back
