-- What a token does to the shape of a reader.
use Rattle.std.proofs.Common.{◌≡◌, ℕ, zero, suc, ◌+◌, ◌-◌, Bool, true, false, List, [], ◌∷◌, length, Option, Some, None, is_some, refl, ap, ◌∙◌, subst, arith, add-one, inl, inr, ◌⊎◌, ◌<◌}
use Rattle.ve_formats.specs.Tokens.{Token, name, number, symbol}
use Rattle.ve_formats.specs.Expressions.{Expression}
use Rattle.ve_formats.specs.Reading as grammar
use Rattle.ve_formats.specs.Reading.{Reading, wanted, stands, raising, inverting, Reader, stuck, reading, Frame, close, first_sign, signs, at_wanted, at_standing, at_raising, read, read_all, blank, expression_read, parsed}
use Rattle.ve_value.specs.declared.shape.Place.{Place}
use Rattle.ve_value.specs.declared.shape.Place.TheVariants.{Wanted, Standing, Raising, Inverting}
use Rattle.ve_value.specs.declared.shape.Shape.{Shape}
use Rattle.ve_value.specs.declared.sign.Sign.{Sign}
use Rattle.ve_value.specs.declared.sign.Sign.TheVariants.{Plus, Minus, Times, Power, Open, Close, Other}
use Rattle.ve_value.specs.Signs.{read_as}
use Rattle.ve_value.specs.Shapes.{place_of, shape_of}

abbrev pub shape : ℕ → Place → Shape
shape depth place = record { depth = depth; place = place }

abbrev pub wanted_then : grammar.Sign → ℕ → Bool → Option Shape
wanted_then grammar.open_ depth signed = Some (shape (depth + 1) (Wanted true))
wanted_then grammar.plus depth true = Some (shape depth (Wanted false))
wanted_then grammar.minus depth true = Some (shape depth (Wanted false))
wanted_then _ depth signed = None

abbrev pub closed_then : ℕ → Option Shape
closed_then zero = None
closed_then (suc depth) = Some (shape depth (Standing true))

abbrev pub standing_then : grammar.Sign → ℕ → Bool → Option Shape
standing_then grammar.raise depth true = Some (shape depth Raising)
standing_then grammar.times depth raisable = Some (shape depth (Wanted false))
standing_then grammar.plus depth raisable = Some (shape depth (Wanted false))
standing_then grammar.minus depth raisable = Some (shape depth (Wanted false))
standing_then grammar.close_ depth raisable = closed_then depth
standing_then _ depth raisable = None

abbrev pub raising_then : grammar.Sign → ℕ → Option Shape
raising_then grammar.minus depth = Some (shape depth Inverting)
raising_then _ depth = None

-- the shape behind one token more
abbrev pub then : ℕ → Place → Token → Option Shape
then depth (Wanted signed) (name x) = Some (shape depth (Standing true))
then depth (Wanted signed) (number digits) = Some (shape depth (Standing true))
then depth (Wanted signed) (symbol b) = wanted_then (first_sign b signs) depth signed
then depth (Standing raisable) (name x) = None
then depth (Standing raisable) (number digits) = None
then depth (Standing raisable) (symbol b) = standing_then (first_sign b signs) depth raisable
then depth Raising (name x) = None
then depth Raising (number digits) = Some (shape depth (Standing false))
then depth Raising (symbol b) = raising_then (first_sign b signs) depth
then depth Inverting (name x) = None
then depth Inverting (number digits) = Some (shape depth (Standing false))
then depth Inverting (symbol b) = None

wanted_steps : (sign : grammar.Sign) (stack : List Frame) (frame : Frame) (signed : Bool) → shape_of (at_wanted sign stack frame signed) ≡ wanted_then sign (length stack) signed
unfolding at_wanted
wanted_steps grammar.open_ stack frame signed = rw (add-one (length stack)) refl
wanted_steps grammar.plus stack frame true = refl
wanted_steps grammar.plus stack frame false = refl
wanted_steps grammar.minus stack frame true = refl
wanted_steps grammar.minus stack frame false = refl
wanted_steps grammar.times stack frame signed = refl
wanted_steps grammar.raise stack frame signed = refl
wanted_steps grammar.close_ stack frame signed = refl
wanted_steps grammar.other stack frame signed = refl

close_steps : (stack : List Frame) (e : Expression) → shape_of (close stack e) ≡ closed_then (length stack)
unfolding close
close_steps [] e = refl
close_steps (frame ∷ stack) e = refl

standing_steps : (sign : grammar.Sign) (stack : List Frame) (frame : Frame) (e : Expression) (raisable : Bool) → shape_of (at_standing sign stack frame e raisable) ≡ standing_then sign (length stack) raisable
unfolding at_standing
standing_steps grammar.raise stack frame e true = refl
standing_steps grammar.raise stack frame e false = refl
standing_steps grammar.times stack frame e raisable = refl
standing_steps grammar.plus stack frame e raisable = refl
standing_steps grammar.minus stack frame e raisable = refl
standing_steps grammar.close_ stack frame e raisable = close_steps stack _
standing_steps grammar.open_ stack frame e raisable = refl
standing_steps grammar.other stack frame e raisable = refl

raising_steps : (sign : grammar.Sign) (stack : List Frame) (frame : Frame) (e : Expression) → shape_of (at_raising sign stack frame e) ≡ raising_then sign (length stack)
unfolding at_raising
raising_steps grammar.minus stack frame e = refl
raising_steps grammar.plus stack frame e = refl
raising_steps grammar.times stack frame e = refl
raising_steps grammar.raise stack frame e = refl
raising_steps grammar.open_ stack frame e = refl
raising_steps grammar.close_ stack frame e = refl
raising_steps grammar.other stack frame e = refl

reading_steps : (stack : List Frame) (frame : Frame) (state : Reading) (t : Token) → shape_of (read (reading stack frame state) t) ≡ then (length stack) (place_of state) t
unfolding read
reading_steps stack frame (wanted signed) (name x) = refl
reading_steps stack frame (wanted signed) (number digits) = refl
reading_steps stack frame (wanted signed) (symbol b) = wanted_steps (first_sign b signs) stack frame signed
reading_steps stack frame (stands raisable e) (name x) = refl
reading_steps stack frame (stands raisable e) (number digits) = refl
reading_steps stack frame (stands raisable e) (symbol b) = standing_steps (first_sign b signs) stack frame e raisable
reading_steps stack frame (raising e) (name x) = refl
reading_steps stack frame (raising e) (number digits) = refl
reading_steps stack frame (raising e) (symbol b) = raising_steps (first_sign b signs) stack frame e
reading_steps stack frame (inverting e) (name x) = refl
reading_steps stack frame (inverting e) (number digits) = refl
reading_steps stack frame (inverting e) (symbol b) = refl

-- a reader of a shape has the shape behind it after one token more
pub steps : (r : Reader) (s : Shape) (t : Token) → shape_of r ≡ Some s → shape_of (read r t) ≡ then s.depth s.place t
steps stuck s t h = absurd (cc)
steps (reading stack frame state) s t h =
    let same : record { depth = length stack; place = place_of state } ≡ s = (cc) in
    subst (λ (s : Shape). shape_of (read (reading stack frame state) t) ≡ then s.depth s.place t) same (reading_steps stack frame state t)

-- signs that leave the same shape

pub sign_wanted : (sign : Sign) (depth : ℕ) (next : Shape) → (sign ≡ Plus) ⊎ (sign ≡ Minus) → next ≡ shape depth (Wanted false) → wanted_then (read_as sign) depth true ≡ Some next
sign_wanted sign depth next (inl is) same = rw (is, same) refl
sign_wanted sign depth next (inr is) same = rw (is, same) refl

pub sign_unwanted : (sign : Sign) (depth : ℕ) → (sign ≡ Plus) ⊎ (sign ≡ Minus) → wanted_then (read_as sign) depth false ≡ None
sign_unwanted sign depth (inl is) = rw is refl
sign_unwanted sign depth (inr is) = rw is refl

pub never_wanted : (sign : Sign) (depth : ℕ) (signed : Bool) → (sign ≡ Times) ⊎ ((sign ≡ Power) ⊎ ((sign ≡ Close) ⊎ (sign ≡ Other))) → wanted_then (read_as sign) depth signed ≡ None
never_wanted sign depth signed (inl is) = rw is refl
never_wanted sign depth signed (inr (inl is)) = rw is refl
never_wanted sign depth signed (inr (inr (inl is))) = rw is refl
never_wanted sign depth signed (inr (inr (inr is))) = rw is refl

pub joins : (sign : Sign) (depth : ℕ) (raisable : Bool) (next : Shape) → (sign ≡ Times) ⊎ ((sign ≡ Plus) ⊎ (sign ≡ Minus)) → next ≡ shape depth (Wanted false) → standing_then (read_as sign) depth raisable ≡ Some next
joins sign depth raisable next (inl is) same = rw (is, same) refl
joins sign depth raisable next (inr (inl is)) same = rw (is, same) refl
joins sign depth raisable next (inr (inr is)) same = rw (is, same) refl

pub never_joins : (sign : Sign) (depth : ℕ) (raisable : Bool) → (sign ≡ Open) ⊎ (sign ≡ Other) → standing_then (read_as sign) depth raisable ≡ None
never_joins sign depth raisable (inl is) = rw is refl
never_joins sign depth raisable (inr is) = rw is refl

pub closes : (depth : ℕ) → 0 < depth → closed_then depth ≡ Some (shape (depth - 1) (Standing true))
closes zero some = absurd (omega arith)
closes (suc depth) some = ap (λ n. Some (shape n (Standing true))) (omega arith)

pub never_raises : (sign : Sign) (depth : ℕ) → (sign ≡ Plus) ⊎ ((sign ≡ Times) ⊎ ((sign ≡ Power) ⊎ ((sign ≡ Open) ⊎ ((sign ≡ Close) ⊎ (sign ≡ Other))))) → raising_then (read_as sign) depth ≡ None
never_raises sign depth (inl is) = rw is refl
never_raises sign depth (inr (inl is)) = rw is refl
never_raises sign depth (inr (inr (inl is))) = rw is refl
never_raises sign depth (inr (inr (inr (inl is)))) = rw is refl
never_raises sign depth (inr (inr (inr (inr (inl is))))) = rw is refl
never_raises sign depth (inr (inr (inr (inr (inr is))))) = rw is refl

-- whole expressions

pub within : (r : Reader) (s : Shape) → shape_of r ≡ Some s → 0 < s.depth → is_some (expression_read r) ≡ false
unfolding expression_read
within stuck s h deep = refl
within (reading [] frame state) s h deep =
    let same : record { depth = 0; place = place_of state } ≡ s = (cc) in
    let none : 0 ≡ s.depth = ap (λ (s : Shape). s.depth) same in
    absurd (omega arith)
within (reading (outer ∷ stack) frame state) s h deep = refl

abbrev pub stands_at : Place → Bool
stands_at (Standing raisable) = true
stands_at _ = false

outside_state : (frame : Frame) (state : Reading) → is_some (expression_read (reading [] frame state)) ≡ stands_at (place_of state)
unfolding expression_read
outside_state frame (wanted signed) = refl
outside_state frame (stands raisable e) = refl
outside_state frame (raising e) = refl
outside_state frame (inverting e) = refl

pub outside : (r : Reader) (s : Shape) → shape_of r ≡ Some s → s.depth ≡ 0 → is_some (expression_read r) ≡ stands_at s.place
unfolding expression_read
outside stuck s h out = absurd (cc)
outside (reading (outer ∷ stack) frame state) s h out =
    let same : record { depth = length (outer ∷ stack); place = place_of state } ≡ s = (cc) in
    let some : length (outer ∷ stack) ≡ s.depth = ap (λ (s : Shape). s.depth) same in
    absurd (omega arith)
outside (reading [] frame state) s h out =
    let same : record { depth = 0; place = place_of state } ≡ s = (cc) in
    outside_state frame state ∙ ap (λ (s : Shape). stands_at s.place) same

-- the front of tokens is read, and this is its shape
pub record IsBefore (s : Shape) (all rest : List Token) : Type 0 where
  pub reader : Reader
  pub has_shape : shape_of reader ≡ Some s
  pub goes_on : read_all (reading [] blank (wanted true)) all ≡ read_all reader rest

pub begins : (all : List Token) → IsBefore (shape 0 (Wanted true)) all all
begins all = record { reader = reading [] blank (wanted true); has_shape = refl; goes_on = refl }

pub goes_further : (s next : Shape) (all : List Token) (t : Token) (rest : List Token) → IsBefore s all (t ∷ rest)
    → ((r : Reader) → shape_of r ≡ Some s → shape_of (read r t) ≡ Some next) → IsBefore next all rest
unfolding read_all
goes_further s next all t rest h step = record { reader = read h.reader t; has_shape = step h.reader h.has_shape; goes_on = h.goes_on }

pub read_all-stuck : (tokens : List Token) → read_all stuck tokens ≡ stuck
unfolding read_all read
read_all-stuck [] = refl
read_all-stuck (t ∷ tokens) = read_all-stuck tokens

pub is_stuck : (r : Reader) → shape_of r ≡ None → r ≡ stuck
is_stuck stuck h = refl
is_stuck (reading stack frame state) h = absurd (cc)

pub fails : (s : Shape) (all : List Token) (t : Token) (rest : List Token) → IsBefore s all (t ∷ rest)
    → ((r : Reader) → shape_of r ≡ Some s → shape_of (read r t) ≡ None) → parsed all ≡ None
unfolding read_all parsed expression_read
fails s all t rest h step =
    ap expression_read (h.goes_on ∙ ap (λ r. read_all r rest) (is_stuck (read h.reader t) (step h.reader h.has_shape)) ∙ read_all-stuck rest)

pub ends : (s : Shape) (all : List Token) → IsBefore s all [] → (b : Bool) → ((r : Reader) → shape_of r ≡ Some s → b ≡ is_some (expression_read r)) → b ≡ is_some (parsed all)
unfolding read_all parsed
ends s all h b whole = rw (h.goes_on) (whole h.reader h.has_shape)
