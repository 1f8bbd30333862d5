-- What holds of levels at work. Each law is the contract of the function of its name.
use Rattle.std.specs.Prelude.{◌≡◌, ℕ, ◌<◌, ◌≤◌, ◌++◌, [], ◌∷◌, Some, All, length, set, slice_get, nat_eq}
use Rattle.ve_theory.specs.Combinations.{scaled, difference, Alike}
use Rattle.ve_theory.specs.Elements.{Element}
use Rattle.ve_theory.specs.Presentations.{relators, relator, submodule_relation, element_reach, due}
use Rattle.ve_theory.specs.Answers.{Row}
use Rattle.ve_vec.specs.Tracing.{vector_times_element, vector_of}
use Rattle.ve_table.specs.Tables.{ActionTable, presented, word_at, row_at, IsLive, IsDue}
use Rattle.ve_table.specs.Sound.{IsSound, NamesLiveIds}
use Rattle.ve_table.specs.Changes.{with_forward, with_row, with_image, without_dead}
use Rattle.ve_machine.specs.Forwards.{Forwards, IsForwarding, IsResolved, IsRewritten, IsDrawnFrom, image_difference}
use Rattle.ve_machine.specs.Known.{Known}
use Rattle.ve_machine.specs.Jobs.{IsLiveIn, HasForward, IsUnderWay, IsSettled, relator_value, submodule_value, image_value}
use Rattle.ve_machine.specs.Finished.{IsFinishedTable, IsOpening, IsPacked, PrefixesAreLive}

-- forwardings

-- combinations of forwardings are forwardings
pub record IsForwardingSpace (p : ℕ) (forwards : Forwards) : Type 0 where
  pub alike : (u v : Row) → Alike nat_eq p u v → IsForwarding p forwards u → IsForwarding p forwards v
  pub empty : IsForwarding p forwards []
  pub combined : (c d : ℕ) (u v : Row) → IsForwarding p forwards u → IsForwarding p forwards v → IsForwarding p forwards (scaled c u ++ scaled d v)
  pub chained : (u v : Row) → IsForwarding p forwards (difference p u v) → IsForwarding p forwards v → IsForwarding p forwards u

abbrev pub ForwardingsAreASpace : Type 0
ForwardingsAreASpace = (p : ℕ) (forwards : Forwards) → 0 < p → IsForwardingSpace p forwards

-- What was a forwarding, or known, stays so where a live id dies. The vector that it dies of is a forwarding then.
pub record DeathsKeep : Type 0 where
  pub forwardings : (p : ℕ) (forwards : Forwards) (b : ℕ) (f v : Row) → 0 < p → IsLiveIn forwards b
      → IsForwarding p forwards v → IsForwarding p (set forwards b (Some f)) v
  pub known : (O : ActionTable) (forwards : Forwards) (b : ℕ) (f : Row) (v : Element) → 0 < (presented O).prime → IsLiveIn forwards b
      → Known O forwards v → Known O (set forwards b (Some f)) v
  pub vector : (p : ℕ) (forwards : Forwards) (b : ℕ) (f v : Row) → 0 < p → IsLiveIn forwards b
      → IsDrawnFrom p v b f → IsForwarding p (set forwards b (Some f)) v

-- each vector of a sound table's ids has a resolved form
abbrev pub ResolutionsExist : Type 0
ResolutionsExist = (T : ActionTable) (v : Row) → IsSound T → All (λ t. t.0 < length T.words) v
    → (w : Row) × IsResolved (presented T).prime T.forwards v w
    × ((bound : ℕ) → All (λ t. t.0 ≤ bound) v → All (λ t. t.0 ≤ bound) w)

-- levels at work

-- a table at the beginning of its level is under way
abbrev pub OpeningsAreUnderWay : Type 0
OpeningsAreUnderWay = (O : ActionTable) → IsOpening O → IsSound O → IsPacked O × IsUnderWay O O

-- a level stays under way where a live id dies, and where a row is rewritten
pub record StaysUnderWay : Type 0 where
  pub deaths : (O T : ActionTable) (b : ℕ) (f : Row) → IsUnderWay O T → IsLive T b → IsSound (with_forward T b f)
      → IsUnderWay O (with_forward T b f)
  pub rewritten : (O T : ActionTable) (b x : ℕ) (row next : Row) → IsUnderWay O T → row_at T b x ≡ Some row
      → IsRewritten (presented T).prime T.forwards row next → IsSound (with_row T b x next) → IsUnderWay O (with_row T b x next)

-- What is traced along the rows of a table under way differs from the value by what is known. An image job's row differs from the
-- value by forwards.
pub record TracesWhatIsKnown (O T : ActionTable) : Type 0 where
  pub relators : (b number : ℕ) (v : Row) → b < length O.words → number < length (relators (presented O))
      → due (presented O) (word_at O b) (relator (presented O) number) ≤ O.level
      → Alike nat_eq (presented O).prime v (vector_times_element (row_at T) ((b, 1) ∷ []) (relator (presented O) number))
      → IsForwarding (presented O).prime T.forwards v → Known O T.forwards (relator_value O b number)
  pub submodule : (number : ℕ) (v : Row) → number < length (presented O).submodule
      → element_reach (presented O) (submodule_relation (presented O) number) ≤ O.level
      → Alike nat_eq (presented O).prime v (vector_of (row_at T) T.images (submodule_relation (presented O) number))
      → IsForwarding (presented O).prime T.forwards v → Known O T.forwards (submodule_value O number)
  pub images : (b x : ℕ) (f v : Row) → HasForward T.forwards b f → IsDue O b x
      → Alike nat_eq (presented O).prime v (image_difference (presented O).prime (row_at T) T.forwards b x)
      → IsForwarding (presented O).prime T.forwards v → IsForwarding (presented O).prime T.forwards (image_value O T.forwards b x)

abbrev pub TracingIsKnown : Type 0
TracingIsKnown = (O T : ActionTable) → IsOpening O → IsSound O → IsUnderWay O T → TracesWhatIsKnown O T

-- Where nothing is left to do the level is finished.
abbrev pub NothingLeftIsFinished : Type 0
NothingLeftIsFinished = (O T : ActionTable) → IsOpening O → IsSound O → IsUnderWay O T → IsSettled O T.forwards → IsFinishedTable T

-- finished tables

-- A finished table stays finished where a row or an image is resolved, and where dead ids that nothing names are dropped. Its live
-- words without their last letters are live.
pub record StaysFinished : Type 0 where
  pub rows : (T : ActionTable) (b x : ℕ) (v w : Row) → IsFinishedTable T → row_at T b x ≡ Some v
      → IsResolved (presented T).prime T.forwards v w → IsSound (with_row T b x w) → IsFinishedTable (with_row T b x w)
  pub images : (T : ActionTable) (i : ℕ) (v w : Row) → IsFinishedTable T → slice_get T.images i ≡ Some v
      → IsResolved (presented T).prime T.forwards v w → IsSound (with_image T i w) → IsFinishedTable (with_image T i w)
  pub dropped : (T : ActionTable) → IsFinishedTable T → NamesLiveIds T → IsSound (without_dead T) → IsFinishedTable (without_dead T)
  pub prefixes : (T : ActionTable) → IsFinishedTable T → PrefixesAreLive T
