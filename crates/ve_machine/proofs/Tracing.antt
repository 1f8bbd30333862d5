-- What is traced along the rows of a table under way differs from the value by what is known.
use Rattle.std.proofs.Common.{◌≡◌, ℕ, ◌+◌, ◌*◌, ◌-◌, ◌%◌, ◌<◌, ◌≤◌, List, [], ◌∷◌, length, All, refl, sym, ap, subst, ◌∙◌, slice_index_or, arith}
use mathlib.Core.Path.{fun_ext}
use Rattle.std.proofs.lemmas.Option.{slice_get-get_or}
use Rattle.std.proofs.lemmas.List.Elements.{All-head, All-tail, All-append, All-weaker}
use Rattle.ve_theory.specs.Combinations.{Combination, unit, scaled, difference, extended}
use Rattle.ve_theory.specs.Words.{Word, generator, times, times_all, start, letters, letters_weight, spelled_back}
use Rattle.ve_theory.specs.Elements.{AlgebraElement, Element, word_times, times_letter}
use Rattle.ve_theory.specs.Presentations.{Presentation, HasLetters, IsWord, letter_count, reach, step, relators, relator, submodule_relation, relator_reach, element_reach, due}
use Rattle.ve_theory.specs.Derivations.{Within}
use Rattle.ve_theory.specs.Answers.{Row}
use Rattle.ve_theory.proofs.Sums.{weigh, weigh-extended, weigh-unit, SameWeights, SameWeights-refl, SameWeights-sym, SameWeights-trans, SameWeights-difference, SameWeights-extended, SameWeights_of, extended-unit, extended-by_units, extended-extended, differences-extended, difference_vanishes}
use Rattle.ve_theory.proofs.Products.{weigh-word_times}
use Rattle.ve_theory.proofs.Members.{All-scaled, All-times_letter}
use Rattle.ve_theory.proofs.Remainders.{All-extended, All-unit, All-combination_of}
use Rattle.ve_theory.proofs.DerivationTrees.{Within-words, All-greatest}
use Rattle.ve_theory.proofs.LevelBounds.{times_letter-difference}
use Rattle.ve_theory.proofs.Orders.{reach-times}
use Rattle.ve_theory.proofs.RelatorReaches.{reach-times_all}
use Rattle.ve_vec.specs.Tracing.{row_or_zero, vector_times, vector_times_letters, vector_times_element, vector_of_word, vector_of}
use Rattle.ve_table.specs.Tables.{ActionTable, presented, word_at, row_at, on_words, element_of, IsDue}
use Rattle.ve_table.specs.Sound.{IsSound}
use Rattle.ve_machine.specs.Forwards.{Forwards, IsForwarding}
use Rattle.ve_machine.specs.Known.{Known, by_forwards, by_image, multiplied}
use Rattle.ve_machine.specs.Jobs.{IsUnderWay, relator_value, submodule_value}
use Rattle.ve_machine.proofs.KnownElements.{Known-alike, Known-nothing, Known-extended, Known-chained, known_on}
use Rattle.ve_machine.proofs.UnderWay.{under_way_positive}
use Rattle.ve_machine.proofs.RowsAtWork.{ids_up_to, product_known, product_ids}
use Rattle.ve_machine.proofs.RelatorLetters.{relator_letters}

-- the id can stand in the vector of a word
abbrev pub IsIdUpTo : ActionTable → Word → ℕ → Type 0
IsIdUpTo O w b = (b < length O.words) × (reach (presented O) (word_at O b) ≤ reach (presented O) w)

-- the vector is that of the word but for what is known, and reaches no further
pub record IsTraced (O : ActionTable) (forwards : Forwards) (w : Word) (v : Row) : Type 0 where
  pub known : Known O forwards (difference (presented O).prime (unit w) (element_of O v))
  pub ids : All (λ t. IsIdUpTo O w t.0) v

module _ (O T : ActionTable) (sound : IsSound O) (under : IsUnderWay O T) where
  abbrev P : Presentation
  P = presented O

  abbrev p : ℕ
  p = P.prime

  abbrev KnownNow : Element → Type 0
  KnownNow v = Known O T.forwards v

  positive : 0 < p
  positive = under_way_positive O T under

  -- times a letter

  products : ℕ → ℕ → Element
  products x b = unit (times (word_at O b) x)

  times_products : (v : Row) (x : ℕ) → times_letter (element_of O v) x ≡ extended (products x) v
  unfolding extended scaled times_letter products
  times_products [] x = refl
  times_products (t ∷ v) x = ap (λ e. (times (word_at O t.0) x, t.1 * 1) ∷ e) (times_products v x)

  due_id : (w : Word) (x b : ℕ) → x < letter_count P → reach P (times w x) ≤ O.level → IsIdUpTo O w b → IsDue O b x
  due_id w x b letter within fits = (fits.0, letter, omega (arith, fits.1, reach-times P w x, within))

  product_within : (w : Word) (v : Row) (x : ℕ) → reach P (times w x) ≤ O.level → All (λ t. IsIdUpTo O w t.0) v → Within P O.level (times_letter (difference p (unit w) (element_of O v)) x)
  product_within w v x within fits =
      Within-words P O.level (times_letter (difference p (unit w) (element_of O v)) x)
      (All-times_letter Reaches (difference p (unit w) (element_of O v)) x
      (All-append (λ (t : Word × ℕ). Reaches (times t.0 x)) (unit w) (scaled (p - 1) (element_of O v))
      (All-unit (λ u. Reaches (times u x)) w within)
      (All-scaled (λ u. Reaches (times u x)) (p - 1) (element_of O v)
      (All-combination_of (λ u. Reaches (times u x)) (on_words O.words) v
      (All-weaker (λ (t : ℕ × ℕ). IsIdUpTo O w t.0) (λ (t : ℕ × ℕ). Reaches (times (word_at O t.0) x))
      (λ t fit. omega (arith, fit.1, reach-times P (word_at O t.0) x, reach-times P w x, within)) v fits)))))
    where
      Reaches : Word → Type 0
      Reaches u = reach P u ≤ O.level

  pub next_traced : (w : Word) (v : Row) (x : ℕ) → x < letter_count P → reach P (times w x) ≤ O.level → IsTraced O T.forwards w v → IsTraced O T.forwards (times w x) (vector_times (row_at T) v x)
  unfolding products times_letter
  next_traced w v x letter within traced = record {
    known = known_on O T.forwards (unit (times w x)) (extended (products x) v) (element_of O (vector_times (row_at T) v x)) positive multiplied_known rows_known;
    ids = All-extended (λ b. IsIdUpTo O (times w x) b) (now x) v
        (All-weaker (λ (t : ℕ × ℕ). IsIdUpTo O w t.0) (λ (t : ℕ × ℕ). All (λ (s : ℕ × ℕ). IsIdUpTo O (times w x) s.0) (now x t.0))
        (λ t fit. All-weaker (λ (s : ℕ × ℕ). (s.0 < length O.words) × (reach P (word_at O s.0) ≤ reach P (word_at O t.0) + step P x)) (λ (s : ℕ × ℕ). IsIdUpTo O (times w x) s.0)
        (λ s is. (is.0, omega (arith, is.1, fit.1, reach-times P w x))) (now x t.0) (product_ids O T sound under x t.0))
        v traced.ids);
  }
    where
      now : ℕ → ℕ → Row
      now y b = row_or_zero (row_at T) y b

      multiplied_known : KnownNow (difference p (unit (times w x)) (extended (products x) v))
      multiplied_known =
          Known-alike O T.forwards
          (SameWeights-trans (SameWeights_of (times_letter-difference p (unit w) (element_of O v) x))
          (SameWeights-difference (SameWeights-refl p (unit (times w x))) (SameWeights_of (times_products v x))))
          (multiplied (difference p (unit w) (element_of O v)) x letter (product_within w v x within traced.ids) traced.known)

      rows_known : KnownNow (difference p (extended (products x) v) (element_of O (extended (now x) v)))
      rows_known =
          Known-alike O T.forwards
          (SameWeights-trans (differences-extended p (products x) (λ b. element_of O (now x b)) v)
          (SameWeights-difference (SameWeights-refl p (extended (products x) v)) (SameWeights-sym (extended-extended p (λ b. unit (word_at O b)) (now x) v))))
          (Known-extended O T.forwards (λ b. difference p (products x b) (element_of O (now x b))) v
          (All-weaker (λ (t : ℕ × ℕ). IsIdUpTo O w t.0) (λ (t : ℕ × ℕ). KnownNow (difference p (products x t.0) (element_of O (now x t.0))))
          (λ t fit. product_known O T sound under x t.0 (due_id w x t.0 letter within fit)) v traced.ids))

  letters_traced : (w : Word) (v : Row) (u : List ℕ) → HasLetters P u → reach P (times_all w u) ≤ O.level → IsTraced O T.forwards w v
      → IsTraced O T.forwards (times_all w u) (vector_times_letters (row_at T) v u)
  unfolding times_all vector_times_letters
  letters_traced w v [] has within traced = traced
  letters_traced w v (x ∷ u) has within traced =
      letters_traced (times w x) (vector_times (row_at T) v x) u (All-tail (λ y. y < letter_count P) x u has) within
      (next_traced w v x (All-head (λ y. y < letter_count P) x u has) (omega (arith, reach-times_all P (times w x) u, within)) traced)

  -- an id, and a generator

  pub id_traced : (b : ℕ) → b < length O.words → IsTraced O T.forwards (word_at O b) (unit b)
  id_traced b known = record {
    known = Known-alike O T.forwards
        (SameWeights-sym (difference_vanishes p (unit (word_at O b)) (element_of O (unit b)) positive (SameWeights-sym (extended-unit p (λ j. unit (word_at O j)) b))))
        (Known-nothing O T.forwards);
    ids = All-unit (λ c. IsIdUpTo O (word_at O b) c) b (known, omega arith);
  }

  pub image_traced : (i : ℕ) → i < P.generators → IsTraced O T.forwards (generator i) (slice_index_or O.images i [])
  image_traced i inside =
      let there = slice_get-get_or O.images i [] (omega (arith, inside, sound.one_image_each)) in
      record {
        known = by_image i (slice_index_or O.images i []) there;
        ids = ids_up_to O (generator i) (slice_index_or O.images i []) (sound.images i (slice_index_or O.images i []) there).not_after;
      }

  word_traced : (w : Word) → IsWord P w → reach P w ≤ O.level → IsTraced O T.forwards w (vector_of_word (row_at T) O.images w)
  word_traced w is_word within =
      subst (λ u. IsTraced O T.forwards u (vector_of_word (row_at T) O.images w)) (spelled_back w)
      (letters_traced (generator (start w)) (slice_index_or O.images (start w) []) (letters w) is_word.1 (subst (λ u. reach P u ≤ O.level) (sym (spelled_back w)) within)
      (image_traced (start w) is_word.0))

  -- sums

  sum_known : {K : Type 0} (f : K → Word) (g : K → Row) (r : Combination K) → All (λ t. IsTraced O T.forwards (f t.0) (g t.0)) r
      → KnownNow (difference p (extended (λ k. unit (f k)) r) (element_of O (extended g r)))
  sum_known {K} f g r traced =
      Known-alike O T.forwards
      (SameWeights-trans (differences-extended p (λ k. unit (f k)) (λ k. element_of O (g k)) r)
      (SameWeights-difference (SameWeights-refl p (extended (λ k. unit (f k)) r)) (SameWeights-sym (extended-extended p (λ b. unit (word_at O b)) g r))))
      (Known-extended O T.forwards (λ k. difference p (unit (f k)) (element_of O (g k))) r
      (All-weaker (λ (t : K × ℕ). IsTraced O T.forwards (f t.0) (g t.0)) (λ (t : K × ℕ). KnownNow (difference p (unit (f t.0)) (element_of O (g t.0)))) (λ t is. is.known) r traced))

  -- where the traced vector is known, the sum is
  vanishing_known : {K : Type 0} (f : K → Word) (g : K → Row) (r : Combination K) (e : Element) (v : Row) → All (λ t. IsTraced O T.forwards (f t.0) (g t.0)) r
      → SameWeights p (extended (λ k. unit (f k)) r) e → SameWeights p v (extended g r) → IsForwarding p T.forwards v → KnownNow e
  vanishing_known f g r e v traced e_is v_is forwarding =
      Known-chained O T.forwards e (element_of O v) positive
      (Known-alike O T.forwards (SameWeights-difference e_is (SameWeights-extended (λ b. unit (word_at O b)) (SameWeights-sym v_is))) (sum_known f g r traced))
      (by_forwards v forwarding)

  -- a relator

  pub times_all-extended : (w : Word) (r : AlgebraElement) → SameWeights p (extended (λ u. unit (times_all w u)) r) (word_times w r)
  times_all-extended w r = record {
    at = λ h. ap (λ n. n % p) (weigh-extended h (λ u. unit (times_all w u)) r ∙ (ap (λ g. weigh g r) (fun_ext (λ u. weigh-unit h (times_all w u))) ∙ sym (weigh-word_times h w r)));
  }

  pub relator_known : (b number : ℕ) (v : Row) → b < length O.words → number < length (relators P) → due P (word_at O b) (relator P number) ≤ O.level
      → SameWeights p v (vector_times_element (row_at T) (unit b) (relator P number)) → IsForwarding p T.forwards v → KnownNow (relator_value O b number)
  relator_known b number v known inside within same forwarding =
      vanishing_known (times_all (word_at O b)) (vector_times_letters (row_at T) (unit b)) (relator P number) (relator_value O b number) v
      (λ k d l.
      let u : List ℕ = (slice_index_or (relator P number) k d).0 in
      letters_traced (word_at O b) (unit b) u (relator_letters P sound.valid.presentation number inside k d l)
      (omega (arith, reach-times_all P (word_at O b) u, All-greatest (letters_weight P.weights) (relator P number) (relator_reach P (relator P number)) (omega arith) k d l, within))
      (id_traced b known))
      (times_all-extended (word_at O b) (relator P number)) same forwarding

  -- a submodule relation

  pub submodule_known : (number : ℕ) (v : Row) → number < length P.submodule → element_reach P (submodule_relation P number) ≤ O.level
      → SameWeights p v (vector_of (row_at T) T.images (submodule_relation P number)) → IsForwarding p T.forwards v → KnownNow (submodule_value O number)
  submodule_known number v inside within same forwarding =
      vanishing_known (λ w. w) (vector_of_word (row_at T) O.images) (submodule_relation P number) (submodule_value O number) v
      (λ k d l.
      word_traced (slice_index_or (submodule_relation P number) k d).0 ((sound.valid.presentation.submodule number [] inside).1 k d l)
      (All-greatest (reach P) (submodule_relation P number) O.level within k d l))
      (extended-by_units p (submodule_relation P number))
      (subst (λ images. SameWeights p v (vector_of (row_at T) images (submodule_relation P number))) under.images same) forwarding
