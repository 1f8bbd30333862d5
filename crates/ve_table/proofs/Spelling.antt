-- The book of words is read off origins.
use Rattle.std.proofs.Common.{◌≡◌, ℕ, suc, ◌+◌, Some, List, [], ◌∷◌, ◌++◌, length, get_or, refl, sym, ap, subst, ◌∙◌, arith}
use Rattle.std.specs.Prelude.{slice_get}
use Rattle.std.proofs.lemmas.List.{append-nil, append_assoc, get_or_append_left, length_push}
use Rattle.ve_theory.specs.Words.{Word, generator, times}
use Rattle.ve_table.specs.declared.origin.Origin.{Origin}
use Rattle.ve_table.specs.declared.origin.Origin.TheVariants.{Root, Child}
use Rattle.ve_table.specs.Books.{spelled, words_after, words_of, IsOriginOf}

-- an origin says its word, also where only the words before it are known
spelled_known : (known rest : List Word) (o : Origin) (w : Word) → IsOriginOf (known ++ rest) (length known) o w → spelled known o ≡ w
unfolding spelled IsOriginOf
spelled_known known rest (Root i) w is = sym is
spelled_known known rest (Child parent x) w is = ap (λ v. times v x) (sym (get_or_append_left known rest (generator 0) parent is.0)) ∙ sym is.1

words_from : (known ws : List Word) (os : List Origin) → length os ≡ length ws → ((b : ℕ) (o : Origin) → slice_get os b ≡ Some o → IsOriginOf (known ++ ws) (length known + b) o (get_or ws b (generator 0)))
    → words_after known os ≡ known ++ ws
unfolding words_after
words_from known [] [] same each = sym (append-nil known)
words_from known (w ∷ ws) [] same each = absurd (omega (arith, same))
words_from known [] (o ∷ os) same each = absurd (omega (arith, same))
words_from known (w ∷ ws) (o ∷ os) same each =
    let here : spelled known o ≡ w = spelled_known known (w ∷ ws) o w (subst (λ n. IsOriginOf (known ++ w ∷ ws) n o w) (omega arith) (each 0 o refl)) in
    let joined : (known ++ w ∷ []) ++ ws ≡ known ++ w ∷ ws = append_assoc known (w ∷ []) ws in
    ap (λ v. words_after (known ++ v ∷ []) os) here
    ∙ words_from (known ++ w ∷ []) ws os (omega (arith, same))
    (λ b p found. subst (λ l. IsOriginOf l (length (known ++ w ∷ []) + b) p (get_or ws b (generator 0))) (sym joined)
    (subst (λ n. IsOriginOf (known ++ w ∷ ws) n p (get_or ws b (generator 0))) (omega (arith, length_push known w)) (each (suc b) p found)))
    ∙ joined

-- words that origins say are the words of the origins
pub words_are : (ws : List Word) (os : List Origin) → length os ≡ length ws → ((b : ℕ) (o : Origin) → slice_get os b ≡ Some o → IsOriginOf ws b o (get_or ws b (generator 0))) → words_of os ≡ ws
words_are ws os same each = words_from [] ws os same (λ b o found. subst (λ n. IsOriginOf ws n o (get_or ws b (generator 0))) (omega arith) (each b o found))
