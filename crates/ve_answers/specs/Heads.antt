-- What the first lines say.
use Rattle.std.specs.Prelude.{◌≡◌, ◌≤◌}
use Rattle.ve_theory.specs.Validity.{most_generators}
use Rattle.ve_formats.specs.AnswerReading.{AreNames, Draft, blank_draft}
use Rattle.ve_answers.specs.declared.head.Head.{Head}

abbrev pub draft_of : Head → Draft
draft_of head = record blank_draft { prime = head.field; names = head.names; generators = head.roots; closed = head.closed; dimension = head.dimension }

-- the head has what places behind it rest on: its letters have names, and its generators have numbers
pub record IsHead (head : Head) : Type 0 where
  pub names : AreNames head.names
  pub generators : head.roots ≤ most_generators

-- the draft has what the first lines say
pub record IsOfHead (head : Head) (draft : Draft) : Type 0 where
  pub prime : draft.prime ≡ head.field
  pub names : draft.names ≡ head.names
  pub generators : draft.generators ≡ head.roots
  pub dimension : draft.dimension ≡ head.dimension
