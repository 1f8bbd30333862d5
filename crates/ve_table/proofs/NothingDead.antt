-- Where no id is dead, nothing is dropped.
use Rattle.std.proofs.Common.{◌≡◌, ℕ, suc, ◌<◌, Some, None, List, [], ◌∷◌, length, map, take, get_or, refl, sym, ap, ap₂, ◌∙◌, arith}
use Rattle.std.specs.Prelude.{Option, All}
use Rattle.std.specs.Option.{option_map}
use Rattle.std.proofs.lemmas.Option.{slice_get-get_or}
use Rattle.std.proofs.lemmas.List.{same_lists, length-map, length-take, get_or-take, get_or_default}
use Rattle.std.proofs.lemmas.List.Elements.{All-head, All-tail}
use Rattle.ve_theory.specs.Words.{Word}
use Rattle.ve_theory.specs.Answers.{Row}
use Rattle.ve_table.specs.Tables.{ActionTable, of_live, live_words, live_below}
use Rattle.ve_table.specs.Sound.{IsSound}
use Rattle.ve_table.specs.Changes.{renumbered, without_dead}
use Rattle.ve_table.proofs.AllLive.{none_dead}
use Rattle.ve_table.proofs.Dropping.{number_is}
use Rattle.ve_table.proofs.LiveIds.{alive, alive-none}
use Rattle.ve_table.proofs.Opening.{all_live, nones}

pub all_alive : (fs : List (Option Row)) → All (λ f. f ≡ None) fs → alive fs ≡ length fs
all_alive [] all = refl
all_alive (f ∷ fs) all = rw (All-head (λ (f : Option Row). f ≡ None) f fs all) (alive-none fs ∙ ap suc (all_alive fs (All-tail (λ (f : Option Row). f ≡ None) f fs all)))

map_same : {X : Type 0} (f : X → X) (xs : List X) → ((k : ℕ) (d : X) → k < length xs → f (get_or xs k d) ≡ get_or xs k d) → map f xs ≡ xs
map_same f [] each = refl
map_same f (x ∷ xs) each = ap₂ (λ z l. z ∷ l) (each 0 x (omega arith)) (map_same f xs (λ k d lt. each (suc k) d (omega (arith, lt))))

module _ (T : ActionTable) (sound : IsSound T) (is : length (live_words T) ≡ length T.words) where
  none : All (λ f. f ≡ None) T.forwards
  none = none_dead T sound is

  number_stays : (b : ℕ) → b < length T.words → live_below T b ≡ b
  number_stays b lt =
      let few : length (take b T.forwards) ≡ b = omega (arith, length-take b T.forwards, lt, sound.one_forward_each) in
      let all : All (λ f. f ≡ None) (take b T.forwards) =
      λ k d inside. get_or-take b T.forwards k d (omega (arith, inside, few)) ∙ none k d (omega (arith, inside, few, lt, sound.one_forward_each)) in
      number_is T b sound.one_forward_each ∙ all_alive (take b T.forwards) all ∙ few

  vector_stays : (v : Row) → All (λ t. t.0 < length T.words) v → renumbered T v ≡ v
  vector_stays [] within = refl
  vector_stays (t ∷ v) within =
      ap₂ (λ i l. (i, t.1) ∷ l) (number_stays t.0 (All-head (λ t. t.0 < length T.words) t v within)) (vector_stays v (All-tail (λ t. t.0 < length T.words) t v within))

  row_stays : (o : Option Row) → ((v : Row) → o ≡ Some v → All (λ t. t.0 < length T.words) v) → option_map (renumbered T) o ≡ o
  row_stays None within = refl
  row_stays (Some v) within = ap Some (vector_stays v (within v refl))

  rows_stay : map (map (option_map (renumbered T))) T.rows ≡ T.rows
  rows_stay =
      map_same (map (option_map (renumbered T))) T.rows
      (λ b l lt. map_same (option_map (renumbered T)) (get_or T.rows b l)
      (λ x d inside. row_stays (get_or (get_or T.rows b l) x d)
      (λ v found. (sound.rows b x v (ap (λ r. get_or r x None) (get_or_default T.rows b [] l lt) ∙ get_or_default (get_or T.rows b l) x None d inside ∙ found)).stands.row.1)))

  images_stay : map (renumbered T) T.images ≡ T.images
  images_stay = map_same (renumbered T) T.images (λ i d lt. vector_stays (get_or T.images i d) (sound.images i (get_or T.images i d) (slice_get-get_or T.images i d lt)).stands.row.1)

  forwards_stay : map (λ _. None) (live_words T) ≡ T.forwards
  forwards_stay =
      same_lists (map absent (live_words T)) T.forwards (length-map (live_words T) absent ∙ is ∙ sym sound.one_forward_each)
      (λ k d lt. nones (live_words T) k d lt ∙ sym (none k d (omega (arith, lt, length-map (live_words T) absent, is, sound.one_forward_each))))
    where
      absent : Word → Option Row
      absent w = None

  pub nothing_dropped : without_dead T ≡ T
  nothing_dropped =
      let words : live_words T ≡ T.words = all_live T.forwards T.words none sound.one_forward_each in
      let rows : of_live T.forwards T.rows ≡ T.rows = all_live T.forwards T.rows none (sound.one_forward_each ∙ sym sound.one_row_list_each) in
      ap (λ (fs : List (Option Row)). record (without_dead T) { forwards = fs }) forwards_stay
      ∙ ap (λ (ws : List Word). record (without_dead T) { forwards = T.forwards; words = ws }) words
      ∙ ap (λ (rs : List (List (Option Row))). record T { rows = map (map (option_map (renumbered T))) rs; images = map (renumbered T) T.images }) rows
      ∙ ap₂ (λ (rs : List (List (Option Row))) (is : List Row). record T { rows = rs; images = is }) rows_stay images_stay
