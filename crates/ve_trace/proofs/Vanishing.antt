-- What is traced of a relation vanishes, since the relation does and the two differ by what is derived.
use Rattle.std.proofs.Common.{◌≡◌, ℕ, suc, ◌+◌, ◌-◌, ◌*◌, ◌%◌, ◌<◌, ◌≤◌, ◌++◌, List, length, refl, sym, ap, ap₂, subst, ◌∙◌, arith}
use Rattle.std.proofs.Math.Nat.{add-mul-mod_self_left}
use Rattle.ve_theory.specs.Residues.{Congruent}
use Rattle.ve_theory.specs.Combinations.{coefficient, difference, scaled, unit, Alike}
use Rattle.ve_theory.specs.Words.{generator, same_word}
use Rattle.ve_theory.specs.Elements.{AlgebraElement, Element, word_times}
use Rattle.ve_theory.specs.Presentations.{Presentation, due, element_reach, relator, relators, submodule_relation}
use Rattle.ve_theory.specs.Derivations.{DerivedWithin}
use Rattle.ve_theory.specs.Answers.{Row}
use Rattle.ve_theory.specs.Laws.{LevelsAreClosed, SumsAddCoefficients}
use Rattle.ve_vec.specs.Tracing.{CanTraceElement, CanTraceRelation}
use Rattle.ve_table.specs.Tables.{ActionTable, IsId, element_of, presented, row_at, word_at}
use Rattle.ve_table.specs.Sound.{IsSound}
use Rattle.ve_trace.specs.Found.{FindsProducts, HasOwnRelations, RelationsAreOwn, SoundTablesFindProducts}
use Rattle.ve_trace.specs.Within.{AreRowsOf, IsTracedRelation, IsTracedRelator, StandsForElement}

taken_away : (m a b : ℕ) → Congruent (suc m) (1 * a + m * (a + m * b)) b
taken_away m a b =
    sym (add-mul-mod_self_left (1 * a + m * (a + m * b)) (suc m) b)
    ∙ (ap (λ n. n % suc m) (both m a b) ∙ add-mul-mod_self_left b (suc m) (a + m * b))
  where
    both : (m a b : ℕ) → (1 * a + m * (a + m * b)) + suc m * b ≡ b + suc m * (a + m * b)
    both m a b = omega arith

module _ (closed : LevelsAreClosed) (adds : SumsAddCoefficients) (P : Presentation) (large : 1 < P.prime) where
  -- what differs from a derived element by a derived one is derived
  pub derived_too : (k : ℕ) (e f : Element) → DerivedWithin P k e → DerivedWithin P k (difference P.prime e f) → DerivedWithin P k f
  derived_too k e f one other =
      (closed P k).alike (scaled 1 e ++ scaled (P.prime - 1) (difference P.prime e f)) f same ((closed P k).combined 1 (P.prime - 1) e (difference P.prime e f) one other)
    where
      prime_is : suc (P.prime - 1) ≡ P.prime
      prime_is = omega (arith, large)

      same : Alike same_word P.prime (scaled 1 e ++ scaled (P.prime - 1) (difference P.prime e f)) f
      same w =
          let m : ℕ = P.prime - 1 in
          let a : ℕ = coefficient same_word e w in
          let b : ℕ = coefficient same_word f w in
          let less : coefficient same_word (difference P.prime e f) w ≡ a + m * b =
          adds.elements.sums e (scaled m f) w ∙ ap (λ n. a + n) (adds.elements.scalings m f w) in
          let whole : coefficient same_word (scaled 1 e ++ scaled m (difference P.prime e f)) w ≡ 1 * a + m * (a + m * b) =
          adds.elements.sums (scaled 1 e) (scaled m (difference P.prime e f)) w
          ∙ ap₂ (λ n l. n + l) (adds.elements.scalings 1 e w) (adds.elements.scalings m (difference P.prime e f) w ∙ ap (λ n. m * n) less) in
          ap (λ n. n % P.prime) whole ∙ subst (λ q. Congruent q (1 * a + m * (a + m * b)) b) prime_is (taken_away m a b)

-- over a table, whose field has p elements
module _ (finds : SoundTablesFindProducts) (own : RelationsAreOwn) (T : ActionTable) (sound : IsSound T) (p : ℕ) (p_is : p ≡ (presented T).prime) where
  over_table : AreRowsOf T p (row_at T)
  over_table = record { sound = sound; field = sym p_is; same = λ b x. refl }

  pub found : FindsProducts T p (row_at T)
  found = finds T p (row_at T) over_table

  relations : HasOwnRelations (presented T)
  relations = own (presented T) sound.valid.presentation

  pub relator_found : (b number : ℕ) (r : AlgebraElement) → r ≡ relator (presented T) number → IsId T b → number < length (relators (presented T))
      → due (presented T) (word_at T b) (relator (presented T) number) ≤ T.level → CanTraceElement p (row_at T) (unit b) r
  relator_found b number r r_is known within is_due =
      let F : AlgebraElement → Type 0 = λ s. CanTraceElement p (row_at T) (unit b) s in
      subst F (sym r_is) (found.elements b (relator (presented T) number) known (relations.letters number within) is_due)

  pub relation_found : (images : List Row) (number : ℕ) (q : Element) → images ≡ T.images → q ≡ submodule_relation (presented T) number → number < length (presented T).submodule
      → element_reach (presented T) (submodule_relation (presented T) number) ≤ T.level → CanTraceRelation p (row_at T) images q
  relation_found images number q images_are q_is within is_due =
      let I : List Row → Type 0 = λ vs. CanTraceRelation p (row_at T) vs q in
      let F : Element → Type 0 = λ s. CanTraceRelation p (row_at T) T.images s in
      subst I (sym images_are) (subst F (sym q_is) (found.relations (submodule_relation (presented T) number) (relations.submodule_words number within) is_due))

  module _ (closed : LevelsAreClosed) (adds : SumsAddCoefficients) (large : 1 < p) where
    prime_large : 1 < (presented T).prime
    prime_large = subst (λ q. 1 < q) p_is large

    pub relator_vanishes : (b number : ℕ) (r : AlgebraElement) (v : Row) → r ≡ relator (presented T) number → IsId T b → number < length (relators (presented T))
        → due (presented T) (word_at T b) (relator (presented T) number) ≤ T.level → IsTracedRelator T p (row_at T) b r v → DerivedWithin (presented T) T.level (element_of T v)
    relator_vanishes b number r v r_is known within is_due traced =
        let P : Presentation = presented T in
        let F : AlgebraElement → Type 0 = λ s. IsTracedRelator T p (row_at T) b s v in
        let stands : StandsForElement T (word_times (word_at T b) (relator P number)) v = (subst F r_is traced over_table known (relations.letters number within) is_due).0 in
        derived_too closed adds P prime_large T.level (word_times (word_at T b) (relator P number)) (element_of T v)
        ((closed P T.level).by_relators (word_at T b) number (sound.words b (generator 0) known).0 within is_due) stands

    pub relation_vanishes : (images : List Row) (number : ℕ) (q : Element) (v : Row) → images ≡ T.images → q ≡ submodule_relation (presented T) number → number < length (presented T).submodule
        → element_reach (presented T) (submodule_relation (presented T) number) ≤ T.level → IsTracedRelation T p (row_at T) images q v → DerivedWithin (presented T) T.level (element_of T v)
    relation_vanishes images number q v images_are q_is within is_due traced =
        let P : Presentation = presented T in
        let F : Element → Type 0 = λ s. IsTracedRelation T p (row_at T) images s v in
        let stands : StandsForElement T (submodule_relation P number) v = (subst F q_is traced over_table images_are (relations.submodule_words number within) is_due).0 in
        derived_too closed adds P prime_large T.level (submodule_relation P number) (element_of T v) ((closed P T.level).by_submodule number within is_due) stands
