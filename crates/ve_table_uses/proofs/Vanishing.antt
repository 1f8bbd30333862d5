-- Where the first relator is 1, every vector vanishes.
use Rattle.std.proofs.Common.{◌≡◌, ℕ, ◌<◌, ◌≤◌, Some, [], length, All, sym, ap, subst}
use Rattle.std.specs.Prelude.{slice_get, slice_index_or}
use Rattle.std.proofs.lemmas.Option.{slice_get_within, get_or_from_slice_get}
use Rattle.ve_theory.specs.Combinations.{unit}
use Rattle.ve_theory.specs.Words.{Word, generator, times_all}
use Rattle.ve_theory.specs.Elements.{word_times}
use Rattle.ve_theory.specs.Presentations.{Presentation, relators, relator, reach, IsWord}
use Rattle.ve_theory.specs.Derivations.{by_relator, value, IsDerivation, StaysWithin, DerivedWithin, Within}
use Rattle.ve_theory.specs.Answers.{Row}
use Rattle.ve_theory.proofs.Sums.{SameWeights_of}
use Rattle.ve_theory.proofs.Remainders.{All-unit}
use Rattle.ve_theory.proofs.DerivationTrees.{Within-words}
use Rattle.ve_theory.proofs.DerivedElements.{DerivedWithin-by}
use Rattle.ve_table.specs.Tables.{ActionTable, presented, word_at, element_of}
use Rattle.ve_table.specs.Sound.{IsSound}
use Rattle.ve_machine.proofs.ResolvedVectors.{derived_sum}

word_vanishes : (P : Presentation) (k : ℕ) (w : Word) → slice_get (relators P) 0 ≡ Some (unit []) → IsWord P w → reach P w ≤ k → DerivedWithin P k (unit w)
unfolding value IsDerivation StaysWithin word_times times_all
word_vanishes P k w one is_word within =
    let relator_is : relator P 0 ≡ unit [] = get_or_from_slice_get (relators P) 0 (unit []) [] one in
    let value_is : word_times w (relator P 0) ≡ unit w = ap (word_times w) relator_is in
    DerivedWithin-by P k (by_relator w 0) (unit w) (is_word, slice_get_within (relators P) 0 (unit []) one)
    (subst (Within P k) (sym value_is) (Within-words P k (unit w) (All-unit (λ u. reach P u ≤ k) w within)))
    (SameWeights_of value_is)

pub vector_vanishes : (T : ActionTable) → IsSound T → slice_get (relators (presented T)) 0 ≡ Some (unit []) → (v : Row) → All (λ t. t.0 < length T.words) v → DerivedWithin (presented T) T.level (element_of T v)
vector_vanishes T sound one v within =
    derived_sum (presented T) T.level (λ j. unit (word_at T j)) v
    (λ k t inside.
    let word = sound.words (slice_index_or v k t).0 (generator 0) (within k t inside) in
    word_vanishes (presented T) T.level (word_at T (slice_index_or v k t).0) one word.0 word.1)
