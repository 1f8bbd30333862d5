use Rattle.ve_formats.proofs.TextOutcomes.{spelled_or_refused, same_presentation, same_refusal, never_both}
use Rattle.ve_formats.proofs.grammar.text_spells_once.Goals as goal

pub returns-clause-read : goal.returns-clause-read
returns-clause-read c = spelled_or_refused c.reduced_lists_are_unique.ensures

pub returns-clause-same_presentation : goal.returns-clause-same_presentation
returns-clause-same_presentation c = λ text P Q. same_presentation c.reduced_lists_are_unique.ensures

pub returns-clause-same_refusal : goal.returns-clause-same_refusal
returns-clause-same_refusal c = λ text line other cause why. same_refusal c.reduced_lists_are_unique.ensures

pub returns-clause-never_both : goal.returns-clause-never_both
returns-clause-never_both c = λ text P line cause. never_both c.reduced_lists_are_unique.ensures
