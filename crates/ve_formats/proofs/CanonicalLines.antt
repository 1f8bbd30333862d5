-- Lines that are written are accepted, and take a draft to the presentation that they are written for.
use Rattle.std.proofs.Common.{◌≡◌, ◌≢◌, ℕ, ◌+◌, ◌<◌, ◌≤◌, ltb, true, cond, List, [], ◌∷◌, ◌++◌, length, map, All, Ok, refl, sym, subst, ap, ◌∙◌, inl, inr, arith, append_assoc, append-nil}
use Rattle.std.specs.Prelude.{codes, IsTrue, count_by, sum_by}
use Rattle.std.proofs.lemmas.Bool.{cases_Bool, ltb-true}
use Rattle.std.proofs.lemmas.List.Elements.{All-nil, All-cons, All-head, All-tail, All-weaker, All-contains}
use Rattle.std.proofs.lemmas.List.Sums.{sum_by-append, sum_by-cons, AllPass-from_list_all}
use Rattle.std.specs.List.{list_all}
use Rattle.ve_theory.specs.Residues.{primes, IsFieldPrime}
use Rattle.ve_theory.specs.Combinations.{IsReduced}
use Rattle.ve_theory.specs.Words.{Word, Shortlex, ShortlexLetters}
use Rattle.ve_theory.specs.Elements.{AlgebraElement, Element, IsAlgebraElementOf, halved, greatest, algebra_length, element_length}
use Rattle.ve_theory.specs.Presentations.{Presentation, HasLetters, IsWord, inverse_relators}
use Rattle.ve_theory.specs.Validity.{IsValid, most_relations, most_cells, most_terms, most_length, is_name, algebra_cells, element_cells, cells}
use Rattle.ve_formats.specs.Tokens.{Token, number}
use Rattle.ve_formats.specs.Expressions as algebra
use Rattle.ve_formats.specs.Expressions.{equals_sign, a_number, a_factor}
use Rattle.ve_formats.specs.ModuleExpressions as modules
use Rattle.ve_formats.specs.PresentationLines.{Line, SpellLine, a_relation, a_submodule_relation, the_end, Stage, among_relations, after_end, Draft, IsAmongRelations, MayStand, Works, takes_relation, takes_submodule, takes_end, IsRelatorOf, with_item, word}
use Rattle.ve_formats.specs.PresentationText.{is_sign, IsTooDeep, Accepts, taken, AcceptsAll, none, one}
use Rattle.ve_formats.specs.CanonicalText.{algebra_term_text, term_text, relation_line, submodule_line}
use Rattle.ve_formats.proofs.CanonicalTerms as terms
use Rattle.ve_formats.proofs.CanonicalTerms.{Writes-sum, less_nothing, sum_tokens}
use Rattle.ve_formats.proofs.CanonicalModuleTerms as module_terms
use Rattle.ve_formats.proofs.CanonicalModuleTerms.{Writes-module_sum, module_less_nothing, term_tokens}
use Rattle.ve_formats.proofs.WrittenLines.{Lexed, Reads, is_of_line, reads_sum, lexed_word, lexed_space, lexed_symbol, lexed_digits, lexed_end, lexed_whole, reads_name}
use Rattle.ve_formats.proofs.WrittenTerms.{reads_algebra_term, reads_term}

-- no `(` stands in the tokens
not_too_deep : (tokens : List Token) → count_by (is_sign 40) tokens ≡ 0 → ¬ IsTooDeep tokens
not_too_deep tokens shallow (front, back, e, deep) =
    let parts : count_by (is_sign 40) tokens ≡ count_by (is_sign 40) front + count_by (is_sign 40) back = ap (count_by (is_sign 40)) e ∙ sum_by-append (λ t. cond (is_sign 40 t) 1 0) front back in
    omega arith

accepted : {draft next : Draft} {line : List ℕ} {tokens : List Token} {form : Line} → draft.stage ≢ after_end → Lexed line tokens → SpellLine tokens form → MayStand draft form
    → Works draft form (Ok next) → Accepts draft line next
accepted {tokens} {form} goes_on h spells stands works =
    taken goes_on (h.lexes 0) (subst (λ ts. ¬ IsTooDeep ts) (sym (h.same 0)) (not_too_deep tokens h.shallow)) (subst (λ ts. SpellLine ts form) (sym (h.same 0)) spells) stands works

-- the lines complete the draft to the presentation
pub record Completes (P : Presentation) (draft : Draft) (lines : List (List ℕ)) : Type 0 where
  pub last : Draft
  pub accepts : AcceptsAll draft lines last
  pub ended : last.stage ≡ after_end
  pub presentation : last.presentation ≡ P
  pub one_line : All (λ line. IsTrue (list_all is_of_line line)) lines

pub completes_after : {P : Presentation} {draft next : Draft} {line : List ℕ} {lines : List (List ℕ)} {tokens : List Token} {form : Line} → draft.stage ≢ after_end → Lexed line tokens
    → SpellLine tokens form → MayStand draft form → Works draft form (Ok next) → Completes P next lines → Completes P draft (line ∷ lines)
completes_after {line} {lines} goes_on h spells stands works k = record {
  last = k.last;
  accepts = one (accepted goes_on h spells stands works) k.accepts;
  ended = k.ended;
  presentation = k.presentation;
  one_line = All-cons (λ line. IsTrue (list_all is_of_line line)) line lines h.one_line k.one_line;
}

among_goes_on : (stage : Stage) → IsAmongRelations stage → stage ≢ after_end
among_goes_on stage (inl e) over = absurd (cc)
among_goes_on stage (inr e) over = absurd (cc)

pub prime_small : (p : ℕ) → IsFieldPrime p → p < 256
unfolding primes
prime_small p h = ltb-true p 256 (All-contains (λ q. ltb q 256 ≡ true) primes p (AllPass-from_list_all (λ q. ltb q 256) primes refl) h)

-- terms fit, one by one
algebra_fits : (P : Presentation) → P.prime < 256 → (r : AlgebraElement) → IsReduced ShortlexLetters P.prime r → All (λ t. HasLetters P t.0) r → algebra_length r ≤ most_length → All (terms.Fits P) r
unfolding IsReduced greatest
algebra_fits P small [] falling known short = All-nil (terms.Fits P)
algebra_fits P small (t ∷ r) falling known short =
    All-cons (terms.Fits P) t r
    (All-head (λ (s : List ℕ × ℕ). HasLetters P s.0) t r known, omega arith, falling.0, falling.1, omega (arith, falling.1))
    (algebra_fits P small r falling.3 (All-tail (λ (s : List ℕ × ℕ). HasLetters P s.0) t r known) (omega arith))

module_fits : (P : Presentation) → P.prime < 256 → (q : Element) → IsReduced Shortlex P.prime q → All (λ t. IsWord P t.0) q → element_length q ≤ most_length → All (module_terms.Fits P) q
unfolding IsReduced greatest
module_fits P small [] falling known short = All-nil (module_terms.Fits P)
module_fits P small (t ∷ q) falling known short =
    All-cons (module_terms.Fits P) t q
    (All-head (λ (s : Word × ℕ). IsWord P s.0) t q known, omega arith, falling.0, falling.1, omega (arith, falling.1))
    (module_fits P small q falling.3 (All-tail (λ (s : Word × ℕ). IsWord P s.0) t q known) (omega arith))

-- ` = 0`
lexed_zero : Lexed (codes " = 0") (equals_sign ∷ number (48 ∷ []) ∷ [])
lexed_zero = lexed_space (lexed_symbol 61 refl refl refl (lexed_space (lexed_digits (48 ∷ []) refl (omega arith) tt lexed_end)))

module _ (P : Presentation) (V : IsValid P) where
  abbrev pub within : List AlgebraElement → List Element → Presentation
  within rs qs = record P { relations = rs; submodule = qs }

  abbrev pub draft_of : Stage → Presentation → ℕ → Draft
  draft_of stage Q counted = record { stage = stage; presentation = Q; counted = counted }

  small : P.prime < 256
  small = prime_small P.prime V.presentation.field

  -- what is known of each relation
  record IsRelation (r : AlgebraElement) : Type 0 where
    falling : IsReduced ShortlexLetters P.prime r
    known : All (λ t. HasLetters P t.0) r
    some : r ≢ []
    few : length r ≤ most_terms
    short : algebra_length r ≤ most_length
    half : IsTrue P.is_balanced → IsAlgebraElementOf P.prime r (halved P.inverses r)

  lexed_relation : (t : List ℕ × ℕ) (v : AlgebraElement) → All (terms.Fits P) (t ∷ v)
      → Lexed (relation_line P (t ∷ v)) (word (codes "relation") ∷ (sum_tokens (terms.tokens_of_term P) (t ∷ v) ++ equals_sign ∷ number (48 ∷ []) ∷ []))
  unfolding is_name
  lexed_relation t v fits =
      let each = All-weaker (terms.Fits P) (λ t. Reads (algebra_term_text P.names t) (terms.tokens_of_term P t)) (λ t fit. reads_algebra_term P V.names V.generators.1 t.0 t.1 fit.0 (omega (arith, fit.3, small))) (t ∷ v) fits in
      lexed_word (codes "relation") refl (reads_sum (algebra_term_text P.names) (terms.tokens_of_term P) t v each (codes " = 0") (equals_sign ∷ number (48 ∷ []) ∷ []) refl lexed_zero)

  relator_of : (rs : List AlgebraElement) (r : AlgebraElement) → IsRelation r → IsRelatorOf (within rs []) r r
  relator_of rs r h =
      elim (cases_Bool P.is_balanced) [
        | inl balanced ↦ inl (balanced, h.half balanced)
        | inr plain ↦ inr (plain, refl)
      ]

  completes_relation : (rs : List AlgebraElement) (r : AlgebraElement) (stage : Stage) (counted : ℕ) {lines : List (List ℕ)} → IsAmongRelations stage → counted < most_relations → IsRelation r
      → cells (within rs []) + algebra_cells r ≤ most_cells → Completes P (draft_of among_relations (within (rs ++ r ∷ []) []) (counted + 1)) lines
      → Completes P (draft_of stage (within rs []) counted) (relation_line P r ∷ lines)
  unfolding with_item
  completes_relation rs [] stage counted among room h fits k = absurd (h.some refl)
  completes_relation rs (t ∷ v) stage counted among room h fits k =
      let each = algebra_fits P small (t ∷ v) h.falling h.known h.short in
      let sum = Writes-sum (within rs []) t v each h.falling h.few in
      completes_after (among_goes_on stage among) (lexed_relation t v each)
      (a_relation sum.spelled (algebra.first_term (algebra.a_term (a_factor (a_number (48 ∷ []))))) refl) among
      (takes_relation _ _ (t ∷ v) (t ∷ v) room (less_nothing (within rs []) sum.worth h.falling h.few) (relator_of rs (t ∷ v) h) fits) k

  record IsSubmoduleRelation (q : Element) : Type 0 where
    falling : IsReduced Shortlex P.prime q
    known : All (λ t. IsWord P t.0) q
    some : q ≢ []
    few : length q ≤ most_terms
    short : element_length q ≤ most_length

  lexed_submodule : (t : Word × ℕ) (v : Element) → All (module_terms.Fits P) (t ∷ v)
      → Lexed (submodule_line P (t ∷ v)) (word (codes "sub") ∷ (sum_tokens (term_tokens P.names) (t ∷ v) ++ equals_sign ∷ number (48 ∷ []) ∷ []))
  unfolding is_name
  lexed_submodule t v fits =
      let each = All-weaker (module_terms.Fits P) (λ t. Reads (term_text P.names t) (term_tokens P.names t)) (λ t fit. reads_term P V.names V.generators.1 t.0 t.1 fit.0 (omega (arith, fit.3, small))) (t ∷ v) fits in
      lexed_word (codes "sub") refl (reads_sum (term_text P.names) (term_tokens P.names) t v each (codes " = 0") (equals_sign ∷ number (48 ∷ []) ∷ []) refl lexed_zero)

  completes_submodule : (qs : List Element) (q : Element) (stage : Stage) (counted : ℕ) {lines : List (List ℕ)} → IsAmongRelations stage → counted < most_relations → IsSubmoduleRelation q
      → cells (within P.relations qs) + element_cells q ≤ most_cells → Completes P (draft_of among_relations (within P.relations (qs ++ q ∷ [])) (counted + 1)) lines
      → Completes P (draft_of stage (within P.relations qs) counted) (submodule_line P q ∷ lines)
  unfolding with_item
  completes_submodule qs [] stage counted among room h fits k = absurd (h.some refl)
  completes_submodule qs (t ∷ v) stage counted among room h fits k =
      let each = module_fits P small (t ∷ v) h.falling h.known h.short in
      let sum = Writes-module_sum (within P.relations qs) t v each h.falling h.few in
      completes_after (among_goes_on stage among) (lexed_submodule t v each)
      (a_submodule_relation sum.spelled (modules.first_term (modules.a_zero (48 ∷ []) refl)) refl) among
      (takes_submodule _ _ (t ∷ v) room (module_less_nothing (within P.relations qs) sum.worth h.falling h.few) fits) k

  -- one relation after another

  cells_before : (rs more : List AlgebraElement) (r : AlgebraElement) → P.relations ≡ rs ++ r ∷ more → cells (within rs []) + algebra_cells r ≤ most_cells
  cells_before rs more r e =
      let given = inverse_relators P.prime 0 P.inverses in
      let all : sum_by algebra_cells (given ++ P.relations) ≡ sum_by algebra_cells given + sum_by algebra_cells P.relations = sum_by-append algebra_cells given P.relations in
      let before : sum_by algebra_cells (given ++ rs) ≡ sum_by algebra_cells given + sum_by algebra_cells rs = sum_by-append algebra_cells given rs in
      let split : sum_by algebra_cells P.relations ≡ sum_by algebra_cells rs + sum_by algebra_cells (r ∷ more) = ap (sum_by algebra_cells) e ∙ sum_by-append algebra_cells rs (r ∷ more) in
      let first : sum_by algebra_cells (r ∷ more) ≡ algebra_cells r + sum_by algebra_cells more = sum_by-cons algebra_cells r more in
      let whole = V.cell_count in
      omega arith

  cells_submodule : (qs more : List Element) (q : Element) → P.submodule ≡ qs ++ q ∷ more → cells (within P.relations qs) + element_cells q ≤ most_cells
  cells_submodule qs more q e =
      let split : sum_by element_cells P.submodule ≡ sum_by element_cells qs + sum_by element_cells (q ∷ more) = ap (sum_by element_cells) e ∙ sum_by-append element_cells qs (q ∷ more) in
      let first : sum_by element_cells (q ∷ more) ≡ element_cells q + sum_by element_cells more = sum_by-cons element_cells q more in
      let whole = V.cell_count in
      omega arith

  completes_end : (stage : Stage) (counted : ℕ) → IsAmongRelations stage → Completes P (draft_of stage P counted) (codes "end" ∷ [])
  unfolding is_name
  completes_end stage counted among =
      completes_after (among_goes_on stage among) (lexed_whole (codes "end") (word (codes "end") ∷ []) (reads_name (codes "end") refl)) the_end among takes_end
      (record { last = draft_of after_end P counted; accepts = none; ended = refl; presentation = refl; one_line = All-nil (λ line. IsTrue (list_all is_of_line line)) })

  completes_submodules : (qs more : List Element) (stage : Stage) (counted : ℕ) → P.submodule ≡ qs ++ more → All IsSubmoduleRelation more → IsAmongRelations stage → counted + length more ≤ most_relations
      → Completes P (draft_of stage (within P.relations qs) counted) (map (submodule_line P) more ++ codes "end" ∷ [])
  completes_submodules qs [] stage counted e each among room =
      subst (λ all. Completes P (draft_of stage (within P.relations all) counted) (codes "end" ∷ [])) (e ∙ append-nil qs) (completes_end stage counted among)
  completes_submodules qs (q ∷ more) stage counted e each among room =
      completes_submodule qs q stage counted among (omega arith) (All-head IsSubmoduleRelation q more each) (cells_submodule qs more q e)
      (completes_submodules (qs ++ q ∷ []) more among_relations (counted + 1) (e ∙ sym (append_assoc qs (q ∷ []) more)) (All-tail IsSubmoduleRelation q more each) (inr refl) (omega arith))

  submodule_relations : All IsSubmoduleRelation P.submodule
  submodule_relations k d l = let given = V.presentation.submodule k d l in let limits = V.submodule k d l in
      record { falling = given.0; known = given.1; some = given.2; few = limits.0; short = limits.1 }

  completes_relations : (rs more : List AlgebraElement) (stage : Stage) (counted : ℕ) → P.relations ≡ rs ++ more → All IsRelation more → IsAmongRelations stage
      → counted + (length more + length P.submodule) ≤ most_relations
      → Completes P (draft_of stage (within rs []) counted) (map (relation_line P) more ++ (map (submodule_line P) P.submodule ++ codes "end" ∷ []))
  completes_relations rs [] stage counted e each among room =
      subst (λ all. Completes P (draft_of stage (within all []) counted) (map (submodule_line P) P.submodule ++ codes "end" ∷ [])) (e ∙ append-nil rs)
      (completes_submodules [] P.submodule stage counted refl submodule_relations among (omega arith))
  completes_relations rs (r ∷ more) stage counted e each among room =
      completes_relation rs r stage counted among (omega arith) (All-head IsRelation r more each) (cells_before rs more r e)
      (completes_relations (rs ++ r ∷ []) more among_relations (counted + 1) (e ∙ sym (append_assoc rs (r ∷ []) more)) (All-tail IsRelation r more each) (inr refl) (omega arith))

  each_relation : All IsRelation P.relations
  each_relation k d l = let given = V.presentation.relations k d l in let limits = V.relations k d l in
      record { falling = given.0; known = given.1; some = given.2; few = limits.0; short = limits.1; half = λ balanced. V.balanced balanced k d l }

  -- after the line of the module and that of balance
  pub completes_all_relations : (stage : Stage) → IsAmongRelations stage
      → Completes P (draft_of stage (within [] []) 0) (map (relation_line P) P.relations ++ (map (submodule_line P) P.submodule ++ codes "end" ∷ []))
  completes_all_relations stage among = completes_relations [] P.relations stage 0 refl each_relation among (omega (arith, V.relation_count))
