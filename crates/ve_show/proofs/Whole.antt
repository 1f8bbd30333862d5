-- The canonical text as its parts.
use Rattle.std.specs.Prelude.{◌≡◌, ℕ, List, [], ◌∷◌, ◌++◌, codes, decimal, map, Result}
use Rattle.std.proofs.Common.{sym, subst, append_assoc}
use Rattle.ve_theory.specs.Presentations.{Presentation}
use Rattle.ve_formats.specs.Lines.{text_of_lines, line_text, text_of_lines-append}
use Rattle.ve_formats.specs.CanonicalText.{canonical, canonical_lines, letter_lines, balance_line, relation_line, submodule_line}
use Rattle.ve_port.specs.declared.fault.OutFault.{OutFault}
use Rattle.ve_port.specs.Sink.{Output}
use Rattle.ve_port.specs.Writing.{Writes}
use Rattle.ve_show.specs.Parts.{numbered_line, declarations_text, relations_text, submodule_text}

lines_text : (a b m : List ℕ) (letters balance relations submodule : List (List ℕ)) →
    text_of_lines (a ∷ b ∷ (letters ++ m ∷ (balance ++ (relations ++ (submodule ++ codes "end" ∷ []))))) ≡
    (line_text a ++ line_text b ++ text_of_lines letters ++ line_text m ++ text_of_lines balance) ++ text_of_lines relations ++ text_of_lines submodule ++ codes "end\n"
unfolding text_of_lines
lines_text a b m letters balance relations submodule =
    rw (text_of_lines-append letters (m ∷ (balance ++ (relations ++ (submodule ++ codes "end" ∷ [])))), text_of_lines-append balance (relations ++ (submodule ++ codes "end" ∷ [])), text_of_lines-append relations (submodule ++ codes "end" ∷ []), text_of_lines-append submodule (codes "end" ∷ []))
    (simp append_assoc)

canonical-parts : (P : Presentation) → canonical P ≡ declarations_text P ++ relations_text P ++ submodule_text P ++ codes "end\n"
unfolding canonical canonical_lines declarations_text numbered_line
canonical-parts P =
    lines_text (codes "venum " ++ decimal P.version) (codes "prime " ++ decimal P.prime) (codes "module " ++ decimal P.generators) (letter_lines P 0 P.inverses) (balance_line P)
    (map (relation_line P) P.relations) (map (submodule_line P) P.submodule)

-- who writes the parts writes the text
pub Writes-parts : (P : Presentation) {A : Type 0} {old new : Output} {r : Result A OutFault} → Writes old new (declarations_text P ++ relations_text P ++ submodule_text P ++ codes "end\n") r → Writes old new (canonical P) r
Writes-parts P {A} {old} {new} {r} writes = subst (λ text. Writes old new text r) (sym (canonical-parts P)) writes
