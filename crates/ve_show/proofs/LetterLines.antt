-- The lines of letters.
use Rattle.std.specs.Prelude.{◌≡◌, ℕ, ◌+◌, ◌<◌, ◌≤◌, List, [], ◌∷◌, ◌++◌, length, codes, Option, Some, None, refl, slice_get, slice_index_or}
use Rattle.std.proofs.Common.{ap, sym, subst, ◌∙◌, append_assoc, append-nil, get_or, take, drop, arith, add_assoc}
use Rattle.std.proofs.lemmas.List.{take_more, take_all, take-append-drop, length-take-le}
use Rattle.std.proofs.lemmas.Bool.{ne_eqb, eq-eqb}
use Rattle.std.proofs.lemmas.Option.{get_or_from_slice_get}
use Rattle.ve_theory.specs.Presentations.{Presentation}
use Rattle.ve_formats.specs.Lines.{text_of_lines, text_of_lines-append, text_of_lines-one}
use Rattle.ve_formats.specs.CanonicalText.{declared_text, letter_line, letter_lines}
use Rattle.ve_port.specs.declared.fault.OutFault.{OutFault}
use Rattle.ve_port.specs.Sink.{Output, Gains, Gains-nil, Gains-append}
use Rattle.ve_port.specs.Writing.{Stops, Stops-longer, Stops-after}

-- the text of the line of a letter with this inverse, or nothing
abbrev pub letter_text : Presentation → ℕ → Option ℕ → List ℕ
letter_text P x inverse = text_of_lines (letter_line P x inverse)

-- the text of the lines of the letters before x
abbrev pub text_before : Presentation → ℕ → List ℕ
text_before P x = text_of_lines (letter_lines P 0 (take x P.inverses))

letter_lines-append : (P : Presentation) (x : ℕ) (front back : List (Option ℕ)) → letter_lines P x (front ++ back) ≡ letter_lines P x front ++ letter_lines P (x + length front) back
unfolding letter_lines
letter_lines-append P x [] back = ap (λ y. letter_lines P y back) (omega arith)
letter_lines-append P x (inverse ∷ front) back =
    let later : x + 1 + length front ≡ x + length (inverse ∷ front) = omega arith in
    rw (letter_lines-append P (x + 1) front back, later) (sym (append_assoc (letter_line P x inverse) (letter_lines P (x + 1) front) (letter_lines P (x + length (inverse ∷ front)) back)))

letter_lines-one : (P : Presentation) (x : ℕ) (inverse : Option ℕ) → letter_lines P x (inverse ∷ []) ≡ letter_line P x inverse
unfolding letter_lines
letter_lines-one P x inverse = append-nil (letter_line P x inverse)

text_before-next : (P : Presentation) (x : ℕ) → x < length P.inverses → text_before P (x + 1) ≡ text_before P x ++ letter_text P x (slice_index_or P.inverses x None)
text_before-next P x inside =
    let here : Option ℕ = slice_index_or P.inverses x None in
    let count : 0 + length (take x P.inverses) ≡ x = omega (arith, length-take-le x P.inverses (omega arith)) in
    rw (take_more P.inverses x None inside, letter_lines-append P 0 (take x P.inverses) (here ∷ []), count, letter_lines-one P x here, text_of_lines-append (letter_lines P 0 (take x P.inverses)) (letter_line P x here)) refl

text_before-all : (P : Presentation) (x : ℕ) → length P.inverses ≤ x → text_before P x ≡ text_of_lines (letter_lines P 0 P.inverses)
text_before-all P x outside = ap (λ inverses. text_of_lines (letter_lines P 0 inverses)) (take_all x P.inverses outside)

-- the text after the line of x
abbrev pub text_after : Presentation → ℕ → List ℕ
text_after P x = text_of_lines (letter_lines P (0 + length (take (x + 1) P.inverses)) (drop (x + 1) P.inverses))

text_at : (P : Presentation) (x : ℕ) → x < length P.inverses → text_of_lines (letter_lines P 0 P.inverses) ≡ text_before P x ++ letter_text P x (slice_index_or P.inverses x None) ++ text_after P x
text_at P x inside =
    ap (λ inverses. text_of_lines (letter_lines P 0 inverses)) (sym (take-append-drop (x + 1) P.inverses))
    ∙ ap text_of_lines (letter_lines-append P 0 (take (x + 1) P.inverses) (drop (x + 1) P.inverses))
    ∙ text_of_lines-append (letter_lines P 0 (take (x + 1) P.inverses)) (letter_lines P (0 + length (take (x + 1) P.inverses)) (drop (x + 1) P.inverses))
    ∙ ap (λ text. text ++ text_after P x) (text_before-next P x inside)

-- ---- how the lines of letters are written

pub Gains-no_letters : (P : Presentation) (out : Output) → Gains out out (text_before P 0)
unfolding letter_lines text_of_lines
Gains-no_letters P out = Gains-nil out

pub Gains-letter : (P : Presentation) (x : ℕ) {old mid new : Output} → x < length P.inverses → Gains old mid (text_before P x) → Gains mid new (letter_text P x (slice_index_or P.inverses x None)) → Gains old new (text_before P (x + 1))
Gains-letter P x {old} {mid} {new} inside before here =
    subst (λ text. Gains old new text) (sym (text_before-next P x inside)) (Gains-append before here)

pub Gains-letters : (P : Presentation) (x : ℕ) {old new : Output} → length P.inverses ≤ x → Gains old new (text_before P x) → Gains old new (text_of_lines (letter_lines P 0 P.inverses))
Gains-letters P x {old} {new} outside gains = subst (λ text. Gains old new text) (text_before-all P x outside) gains

pub Stops-letter : (P : Presentation) (x : ℕ) {old mid new : Output} {fault : OutFault} → x < length P.inverses → Gains old mid (text_before P x) → Stops mid new (letter_text P x (slice_index_or P.inverses x None)) fault → Stops old new (text_of_lines (letter_lines P 0 P.inverses)) fault
Stops-letter P x {old} {mid} {new} {fault} inside before stop =
    subst (λ text. Stops old new text fault) (sym (text_at P x inside)) (Stops-longer (Stops-after before stop) (text_after P x))

-- ---- the line of one letter

at_inverse : (P : Presentation) (x : ℕ) (inverse : Option ℕ) → slice_get P.inverses x ≡ Some inverse → letter_text P x (slice_index_or P.inverses x None) ≡ letter_text P x inverse
at_inverse P x inverse here = ap (letter_text P x) (get_or_from_slice_get P.inverses x inverse None here)

pub plain_text : (P : Presentation) (x : ℕ) → slice_get P.inverses x ≡ Some None → letter_text P x (slice_index_or P.inverses x None) ≡ codes "letter " ++ declared_text P x ++ codes "\n"
plain_text P x here = at_inverse P x None here ∙ text_of_lines-one (codes "letter " ++ declared_text P x)

pub involution_text : (P : Presentation) (x y : ℕ) → slice_get P.inverses x ≡ Some (Some y) → y ≡ x → letter_text P x (slice_index_or P.inverses x None) ≡ codes "involution " ++ declared_text P x ++ codes "\n"
involution_text P x y here same =
    at_inverse P x (Some y) here ∙ rw (eq-eqb x y (sym same)) (text_of_lines-one (codes "involution " ++ declared_text P x))

pub pair_text : (P : Presentation) (x y : ℕ) → slice_get P.inverses x ≡ Some (Some y) → (y ≡ x → ⊥) → y ≡ x + 1 → letter_text P x (slice_index_or P.inverses x None)
    ≡ codes "letter " ++ declared_text P x ++ codes " inverse " ++ declared_text P y ++ codes "\n"
pair_text P x y here differ next =
    at_inverse P x (Some y) here ∙ rw (ne_eqb x y (λ e. differ (sym e)), eq-eqb y (x + 1) next) (text_of_lines-one (codes "letter " ++ declared_text P x ++ codes " inverse " ++ declared_text P y))

pub second_text : (P : Presentation) (x y : ℕ) → slice_get P.inverses x ≡ Some (Some y) → (y ≡ x → ⊥) → (y ≡ x + 1 → ⊥) → letter_text P x (slice_index_or P.inverses x None) ≡ []
unfolding text_of_lines
second_text P x y here differ later =
    at_inverse P x (Some y) here ∙ rw (ne_eqb x y (λ e. differ (sym e)), ne_eqb y (x + 1) later) refl

pub ruleset letter_texts = (plain_text, involution_text, pair_text, second_text, append_assoc, append-nil)
