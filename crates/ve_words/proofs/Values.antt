-- The values that `clap` gives, as the commands have them.
use Rattle.std.specs.Prelude.{◌≡◌, ◌≢◌, ℕ, ◌<◌, ◌≤◌, ◌^◌, ◌⊎◌, Bool, true, false, List, [], ◌∷◌, Option, Some, None, option_map, Result, Ok, Err, IsTrue, codes}
use Rattle.std.specs.Borrow.{Bor}
use Rattle.std.specs.Str.Parse.{ParsesUnsigned, digits_value, without_leading_plus}
use Rattle.std.proofs.Common.{refl, ap, sym, subst, ◌∙◌, inl, inr, arith}
use Rattle.clap.specs.Words.{Row, first_value, one_text, first_of, one_of, rows_of, ReadsOne, Kinds, HasKind, IsAmong, FailsBy, kind_of}
use Rattle.clap.specs.declared.parser.matches.Found.{Found}
use Rattle.clap.specs.declared.error.Error.{Error}
use Rattle.clap.specs.declared.error.kind.ErrorKind.{ErrorKind}
use Rattle.clap.specs.declared.error.kind.ErrorKind.TheVariants.{OutOfMemory}
use Rattle.clap.proofs.WalkLemmas.{first_value-rows, one_text-rows}
use Rattle.ve_words.specs.Meaning.{IsFlag, IsNumber}

-- ---- flags

pub flag_given : (f : Found) (id text : List ℕ) (set : Bool) → Some text ≡ first_value f id → (set ≡ true → text ≡ codes "true") → (text ≡ codes "true" → set ≡ true)
    → IsFlag (rows_of f) id set
flag_given f id text set is there back =
    let found : first_of id (rows_of f) ≡ Some text = sym (is ∙ first_value-rows f id) in
    (λ h. found ∙ ap Some (there h), λ h. let same : Some text ≡ Some (codes "true") = sym found ∙ h in back (cc))

pub flag_absent : (f : Found) (id : List ℕ) → None ≡ first_value f id → IsFlag (rows_of f) id false
flag_absent f id is =
    let found : first_of id (rows_of f) ≡ None = sym (is ∙ first_value-rows f id) in
    (λ h. cc, λ h. let bad : None ≡ Some (codes "true") = sym found ∙ h in cc)

-- ---- numbers

module _ (E : Type 0) (G : List ℕ → Result ℕ E → Type 0) (reads : (u : List ℕ) (x : Result ℕ E) → G u x → ParsesUnsigned 64 10 u x) where
  pub number_given : (f : Found) (id : List ℕ) (low high n : ℕ) (r : Option ℕ) → (one_text f id ≡ None → r ≡ None) → ((t : List ℕ) → one_text f id ≡ Some t → ReadsOne G t r)
      → r ≡ Some n → low ≤ n → n ≤ high → IsNumber (rows_of f) id low high n
  number_given f id low high n r none value is above below = go (one_text f id) refl
    where
      go : (o : Option (List ℕ)) → one_text f id ≡ o → IsNumber (rows_of f) id low high n
      go None e = let bad : Some n ≡ None = sym is ∙ none e in cc
      go (Some t) e =
          let read : G t (Ok n) = subst (ReadsOne G t) is (value t e) in
          let parsed = reads t (Ok n) read in
          record {
            text = t;
            given = sym (one_text-rows f id) ∙ e;
            accepted = (parsed.0.0, parsed.0.1, omega (arith, parsed.1), omega (arith, parsed.1));
            value = parsed.1;
          }

  pub number_other : (f : Found) (id : List ℕ) (low high m : ℕ) (r : Option ℕ) → ((t : List ℕ) → one_text f id ≡ Some t → ReadsOne G t r)
      → r ≡ Some m → ((m < low) ⊎ (high < m)) → (n : ℕ) → IsNumber (rows_of f) id low high n → ⊥
  number_other f id low high m r value is outside n number =
      let read : G number.text (Ok m) = subst (ReadsOne G number.text) is (value number.text (one_text-rows f id ∙ number.given)) in
      let parsed = reads number.text (Ok m) read in
      let least = number.accepted.2 in
      let most = number.accepted.3 in
      let same : m ≡ digits_value 10 (without_leading_plus number.text) = parsed.1 in
      elim outside [ inl less ↦ omega arith | inr more ↦ omega arith ]

  pub number_none : (f : Found) (id : List ℕ) (low high : ℕ) (r : Option ℕ) → ((t : List ℕ) → one_text f id ≡ Some t → ReadsOne G t r)
      → r ≡ None → (n : ℕ) → IsNumber (rows_of f) id low high n → ⊥
  number_none f id low high r value is n number =
      let read = subst (ReadsOne G number.text) is (value number.text (one_text-rows f id ∙ number.given)) in
      reads number.text (Err read.0) read.1 (number.accepted.0, number.accepted.1)

-- ---- refusals

pub memory_alone : (kinds : Kinds) (error : Error) → HasKind kinds error → (kind_of error ≡ OutOfMemory → ⊥) → kinds ≡ [] → ⊥
memory_alone kinds error (inl memory) other none = other memory
memory_alone kinds error (inr among) other none = subst (IsAmong (kind_of error)) none among
