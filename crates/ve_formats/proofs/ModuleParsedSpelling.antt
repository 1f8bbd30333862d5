-- What is parsed as an expression of the module is spelled.
use Rattle.std.proofs.Common.{◌≡◌, ℕ, Bool, true, false, cond, List, [], ◌∷◌, ◌++◌, Some, None, subst, refl, sym, ap, ◌∙◌, append_assoc, append-nil}
use Rattle.std.specs.Prelude.{nat_eq}
use Rattle.std.proofs.lemmas.Bool.{eqb-true}
use Rattle.ve_formats.specs.Tokens.{Token, name, number, symbol, number_value}
use Rattle.ve_formats.specs.Expressions as algebra
use Rattle.ve_formats.specs.Expressions.{Expression, atom, factor, Spell, a_number, a_name, in_parentheses, raised, raised_inverse, open_sign, close_sign, plus_sign, minus_sign, times_sign, power_sign}
use Rattle.ve_formats.specs.ModuleExpressions as modules
use Rattle.ve_formats.specs.ModuleExpressions.{ModuleExpression, nothing, generator, generated, ModuleSpell, a_generator, scaled, a_zero}
use Rattle.ve_formats.specs.Reading.{Frame, Reading, wanted, stands, raising, inverting, Reader, stuck, reading, blank, close, Sign, plus, minus, times, raise, open_, close_, other, sign_byte, signs, at_wanted, at_standing, at_raising, read, expression_read}
use Rattle.ve_formats.specs.ModuleReading.{ModuleReading, term_wanted, numbered, scaling, term_stands, multiplying, ModuleReader, module_stuck, module_reading, module_start, factor_start, in_factor, before_term, behind_term, behind_number, is_joining, behind_factor, module_read, module_read_all, multiplied_whole, module_expression_read, module_parsed}
use Rattle.ve_formats.proofs.ParsedSpelling.{Behind, standing_rank, as_factor, IsReader, starts, at_wanted-sound, at_standing-sound, at_raising-sound, read-sound, standing_whole, with_sign}

-- The tokens of a factor, as far as it was read: where a parenthesis is open, what is within is read as an expression.
data IsFactorReader : Reader → List Token → Type 0 where
  lost : {tokens : List Token} → IsFactorReader stuck tokens
  begun : IsFactorReader factor_start []
  standing : (raisable : Bool) {tokens : List Token} {e : Expression} → Spell (standing_rank raisable) tokens e → IsFactorReader (reading [] blank (stands raisable e)) tokens
  before_power : {own tokens : List Token} {e : Expression} → Spell atom own e → tokens ≡ own ++ power_sign ∷ [] → IsFactorReader (reading [] blank (raising e)) tokens
  before_inverse : {own tokens : List Token} {e : Expression} → Spell atom own e → tokens ≡ own ++ power_sign ∷ minus_sign ∷ [] → IsFactorReader (reading [] blank (inverting e)) tokens
  inside : (stack : List Frame) {frame : Frame} {state : Reading} {inner : List Token} → IsReader (reading stack frame state) inner
      → IsFactorReader (reading (stack ++ blank ∷ []) frame state) (open_sign ∷ inner)

-- the reader within parentheses, with these around it
unfoldable lifted : Reader → Reader
lifted stuck = stuck
lifted (reading stack frame state) = reading (stack ++ blank ∷ []) frame state

lifted-sound : (r : Reader) {inner : List Token} → IsReader r inner → IsFactorReader (lifted r) (open_sign ∷ inner)
unfolding lifted
lifted-sound stuck h = lost
lifted-sound (reading stack frame state) h = inside stack h

module _ (stack : List Frame) (frame : Frame) (inner : List Token) where
  wanted_inside : (first : Bool) → IsReader (reading stack frame (wanted first)) inner → (s : Sign)
      → IsFactorReader (at_wanted s (stack ++ blank ∷ []) frame first) (open_sign ∷ (inner ++ symbol (sign_byte s) ∷ []))
  unfolding at_wanted lifted
  wanted_inside first h open_ = lifted-sound (at_wanted open_ stack frame first) (at_wanted-sound stack frame first inner h open_)
  wanted_inside true h plus = lifted-sound (at_wanted plus stack frame true) (at_wanted-sound stack frame true inner h plus)
  wanted_inside false h plus = lost
  wanted_inside true h minus = lifted-sound (at_wanted minus stack frame true) (at_wanted-sound stack frame true inner h minus)
  wanted_inside false h minus = lost
  wanted_inside first h times = lost
  wanted_inside first h raise = lost
  wanted_inside first h close_ = lost
  wanted_inside first h other = lost

  raising_inside : (e : Expression) → IsReader (reading stack frame (raising e)) inner → (s : Sign)
      → IsFactorReader (at_raising s (stack ++ blank ∷ []) frame e) (open_sign ∷ (inner ++ symbol (sign_byte s) ∷ []))
  unfolding at_raising lifted
  raising_inside e h minus = lifted-sound (at_raising minus stack frame e) (at_raising-sound stack frame e inner h minus)
  raising_inside e h plus = lost
  raising_inside e h times = lost
  raising_inside e h raise = lost
  raising_inside e h open_ = lost
  raising_inside e h close_ = lost
  raising_inside e h other = lost

-- the parenthesis that closes an inner expression, or the factor's own
closes_inside : (stack : List Frame) (frame : Frame) (inner : List Token) (raisable : Bool) (e : Expression) → IsReader (reading stack frame (stands raisable e)) inner
    → IsFactorReader (at_standing close_ (stack ++ blank ∷ []) frame e raisable) (open_sign ∷ (inner ++ close_sign ∷ []))
unfolding at_standing close lifted
closes_inside [] frame inner raisable e h =
    let all : h.back ≡ inner = ap (λ ts. ts ++ h.back) (sym h.before) ∙ h.are in
    standing true (in_parentheses (subst (λ ts. Spell algebra.whole ts (frame.joins (frame.times e))) all (standing_whole raisable h.behind)) refl)
closes_inside (outer ∷ stack) frame inner raisable e h = lifted-sound (at_standing close_ (outer ∷ stack) frame e raisable) (at_standing-sound (outer ∷ stack) frame raisable e inner h close_)

module _ (stack : List Frame) (frame : Frame) (inner : List Token) where
  standing_inside : (raisable : Bool) (e : Expression) → IsReader (reading stack frame (stands raisable e)) inner → (s : Sign)
      → IsFactorReader (at_standing s (stack ++ blank ∷ []) frame e raisable) (open_sign ∷ (inner ++ symbol (sign_byte s) ∷ []))
  unfolding at_standing lifted
  standing_inside true e h raise = lifted-sound (at_standing raise stack frame e true) (at_standing-sound stack frame true e inner h raise)
  standing_inside false e h raise = lost
  standing_inside raisable e h times = lifted-sound (at_standing times stack frame e raisable) (at_standing-sound stack frame raisable e inner h times)
  standing_inside raisable e h plus = lifted-sound (at_standing plus stack frame e raisable) (at_standing-sound stack frame raisable e inner h plus)
  standing_inside raisable e h minus = lifted-sound (at_standing minus stack frame e raisable) (at_standing-sound stack frame raisable e inner h minus)
  standing_inside raisable e h close_ = closes_inside stack frame inner raisable e h
  standing_inside raisable e h open_ = lost
  standing_inside raisable e h other = lost

  read_inside : (state : Reading) (t : Token) → IsReader (reading stack frame state) inner
      → IsFactorReader (read (reading (stack ++ blank ∷ []) frame state) t) (open_sign ∷ (inner ++ t ∷ []))
  unfolding read at_wanted at_standing at_raising lifted
  read_inside (wanted first) (name x) h = lifted-sound (read (reading stack frame (wanted first)) (name x)) (read-sound (reading stack frame (wanted first)) (name x) inner h)
  read_inside (wanted first) (number digits) h =
      lifted-sound (read (reading stack frame (wanted first)) (number digits)) (read-sound (reading stack frame (wanted first)) (number digits) inner h)
  read_inside (wanted first) (symbol b) h =
      with_sign (λ s n. IsFactorReader (at_wanted s (stack ++ blank ∷ []) frame first) (open_sign ∷ (inner ++ symbol n ∷ []))) (wanted_inside stack frame inner first h) (λ n. lost) b signs
  read_inside (stands raisable e) (name x) h = lost
  read_inside (stands raisable e) (number digits) h = lost
  read_inside (stands raisable e) (symbol b) h =
      with_sign (λ s n. IsFactorReader (at_standing s (stack ++ blank ∷ []) frame e raisable) (open_sign ∷ (inner ++ symbol n ∷ []))) (standing_inside raisable e h) (λ n. lost) b signs
  read_inside (raising e) (name x) h = lost
  read_inside (raising e) (number digits) h =
      lifted-sound (read (reading stack frame (raising e)) (number digits)) (read-sound (reading stack frame (raising e)) (number digits) inner h)
  read_inside (raising e) (symbol b) h =
      with_sign (λ s n. IsFactorReader (at_raising s (stack ++ blank ∷ []) frame e) (open_sign ∷ (inner ++ symbol n ∷ []))) (raising_inside stack frame inner e h) (λ n. lost) b signs
  read_inside (inverting e) (name x) h = lost
  read_inside (inverting e) (number digits) h =
      lifted-sound (read (reading stack frame (inverting e)) (number digits)) (read-sound (reading stack frame (inverting e)) (number digits) inner h)
  read_inside (inverting e) (symbol b) h = lost

-- a token outside of parentheses

at_begun : (s : Sign) → IsFactorReader (at_wanted s [] blank false) (symbol (sign_byte s) ∷ [])
unfolding at_wanted
at_begun open_ = inside [] starts
at_begun plus = lost
at_begun minus = lost
at_begun times = lost
at_begun raise = lost
at_begun close_ = lost
at_begun other = lost

read_begun : (t : Token) → IsFactorReader (read factor_start t) (t ∷ [])
unfolding read at_wanted
read_begun (name x) = standing true (a_name x)
read_begun (number digits) = standing true (a_number digits)
read_begun (symbol b) = with_sign (λ s n. IsFactorReader (at_wanted s [] blank false) (symbol n ∷ [])) at_begun (λ n. lost) b signs

module _ {own tokens : List Token} {e : Expression} (h : Spell atom own e) where
  at_before_power : tokens ≡ own ++ power_sign ∷ [] → (s : Sign) → IsFactorReader (at_raising s [] blank e) (tokens ++ symbol (sign_byte s) ∷ [])
  unfolding at_raising
  at_before_power are minus = before_inverse h (ap (λ ts. ts ++ minus_sign ∷ []) are ∙ append_assoc own (power_sign ∷ []) (minus_sign ∷ []))
  at_before_power are plus = lost
  at_before_power are times = lost
  at_before_power are raise = lost
  at_before_power are open_ = lost
  at_before_power are close_ = lost
  at_before_power are other = lost

  read_power : tokens ≡ own ++ power_sign ∷ [] → (t : Token) → IsFactorReader (read (reading [] blank (raising e)) t) (tokens ++ t ∷ [])
  unfolding read at_raising
  read_power are (name x) = lost
  read_power are (number digits) = standing false (raised digits h (ap (λ ts. ts ++ number digits ∷ []) are ∙ append_assoc own (power_sign ∷ []) (number digits ∷ [])))
  read_power are (symbol b) = with_sign (λ s n. IsFactorReader (at_raising s [] blank e) (tokens ++ symbol n ∷ [])) (at_before_power are) (λ n. lost) b signs

  read_inverse : tokens ≡ own ++ power_sign ∷ minus_sign ∷ [] → (t : Token) → IsFactorReader (read (reading [] blank (inverting e)) t) (tokens ++ t ∷ [])
  unfolding read
  read_inverse are (name x) = lost
  read_inverse are (number digits) =
      standing false (raised_inverse digits h (ap (λ ts. ts ++ number digits ∷ []) are ∙ append_assoc own (power_sign ∷ minus_sign ∷ []) (number digits ∷ [])))
  read_inverse are (symbol b) = lost

-- The tokens of a term, as far as it was read, behind those that it is joined to.

record InTerm (joins : ModuleExpression → ModuleExpression) (Q : List Token → Type 0) (tokens : List Token) : Type 0 where
  sums : List Token
  own : List Token
  are : sums ++ own ≡ tokens
  joined : (back : List Token) (n : ModuleExpression) → ModuleSpell modules.term back n → ModuleSpell modules.whole (sums ++ back) (joins n)
  holds : Q own

record IsOpen (joins : ModuleExpression → ModuleExpression) (first : Bool) (tokens : List Token) : Type 0 where
  joined : (back : List Token) (n : ModuleExpression) → ModuleSpell modules.term back n → ModuleSpell modules.whole (tokens ++ back) (joins n)
  none : first ≡ true → tokens ≡ []

record IsNumeral (n : ℕ) (tokens : List Token) : Type 0 where
  digits : List ℕ
  are : number digits ∷ [] ≡ tokens
  value : number_value digits ≡ n

record IsMultiplied (m : ModuleExpression) (r : Reader) (tokens : List Token) : Type 0 where
  front : List Token
  back : List Token
  are : front ++ times_sign ∷ back ≡ tokens
  spelled : ModuleSpell generated front m
  reader : IsFactorReader r back

abbrev IsModuleReading : (ModuleExpression → ModuleExpression) → ModuleReading → List Token → Type 0
IsModuleReading joins (term_wanted first) tokens = IsOpen joins first tokens
IsModuleReading joins (numbered n) tokens = InTerm joins (IsNumeral n) tokens
IsModuleReading joins (scaling n) tokens = InTerm joins (Behind (IsNumeral n) (times_sign ∷ [])) tokens
IsModuleReading joins (term_stands m) tokens = InTerm joins (λ own. ModuleSpell generated own m) tokens
IsModuleReading joins (multiplying m r) tokens = InTerm joins (IsMultiplied m r) tokens

abbrev IsModuleReader : ModuleReader → List Token → Type 0
IsModuleReader module_stuck tokens = Unit {0}
IsModuleReader (module_reading joins state) tokens = IsModuleReading joins state tokens

module _ {joins : ModuleExpression → ModuleExpression} {tokens : List Token} where
  -- the first token of a term, and one more
  enters : (first : Bool) (Q : List Token → Type 0) (t : Token) → IsOpen joins first tokens → Q (t ∷ []) → InTerm joins Q (tokens ++ t ∷ [])
  enters first Q t h q = record { sums = tokens; own = t ∷ []; are = refl; joined = h.joined; holds = q }

  grows : (Q R : List Token → Type 0) (t : Token) → ((own : List Token) → Q own → R (own ++ t ∷ [])) → InTerm joins Q tokens → InTerm joins R (tokens ++ t ∷ [])
  grows Q R t step h = record {
    sums = h.sums;
    own = h.own ++ t ∷ [];
    are = sym (append_assoc h.sums h.own (t ∷ [])) ∙ ap (λ ts. ts ++ t ∷ []) h.are;
    joined = h.joined;
    holds = step h.own h.holds;
  }

  holds_of : (Q R : List Token → Type 0) → ((own : List Token) → Q own → R own) → InTerm joins Q tokens → InTerm joins R tokens
  holds_of Q R step h = record { sums = h.sums; own = h.own; are = h.are; joined = h.joined; holds = step h.own h.holds }

module _ (joins : ModuleExpression → ModuleExpression) (m : ModuleExpression) (tokens : List Token) where
  whole_of : InTerm joins (λ own. ModuleSpell modules.term own m) tokens → ModuleSpell modules.whole tokens (joins m)
  whole_of h = subst (λ ts. ModuleSpell modules.whole ts (joins m)) h.are (h.joined h.own m h.holds)

  opens_sum : InTerm joins (λ own. ModuleSpell modules.term own m) tokens → IsOpen (λ n. modules.sum (joins m) n) false (tokens ++ plus_sign ∷ [])
  opens_sum h = record { joined = λ back n k. modules.added (whole_of h) k (append_assoc tokens (plus_sign ∷ []) back); none = λ e. absurd (cc) }

  opens_difference : InTerm joins (λ own. ModuleSpell modules.term own m) tokens → IsOpen (λ n. modules.difference (joins m) n) false (tokens ++ minus_sign ∷ [])
  opens_difference h = record { joined = λ back n k. modules.subtracted (whole_of h) k (append_assoc tokens (minus_sign ∷ []) back); none = λ e. absurd (cc) }

  as_term : InTerm joins (λ own. ModuleSpell generated own m) tokens → InTerm joins (λ own. ModuleSpell modules.term own m) tokens
  as_term h = holds_of (λ own. ModuleSpell generated own m) (λ own. ModuleSpell modules.term own m) (λ own k. modules.a_term k) h

  behind_term-sound : InTerm joins (λ own. ModuleSpell generated own m) tokens → (s : Sign) → IsModuleReader (behind_term s joins m) (tokens ++ symbol (sign_byte s) ∷ [])
  unfolding behind_term
  behind_term-sound h times =
      grows (λ own. ModuleSpell generated own m) (IsMultiplied m factor_start) times_sign (λ own k. record { front = own; back = []; are = refl; spelled = k; reader = begun }) h
  behind_term-sound h plus = opens_sum (as_term h)
  behind_term-sound h minus = opens_difference (as_term h)
  behind_term-sound h raise = tt
  behind_term-sound h open_ = tt
  behind_term-sound h close_ = tt
  behind_term-sound h other = tt

-- a number is a term where it is 0
zero_term : (joins : ModuleExpression → ModuleExpression) (n : ℕ) {tokens : List Token} → nat_eq n 0 ≡ true → InTerm joins (IsNumeral n) tokens → InTerm joins (λ own. ModuleSpell modules.term own nothing) tokens
zero_term joins n is h =
    holds_of (IsNumeral n) (λ own. ModuleSpell modules.term own nothing)
    (λ own k. subst (λ ts. ModuleSpell modules.term ts nothing) k.are (a_zero k.digits (k.value ∙ eqb-true n 0 is))) h

module _ (joins : ModuleExpression → ModuleExpression) (n : ℕ) (tokens : List Token) (h : InTerm joins (IsNumeral n) tokens) where
  behind_zero-plus : (test : Bool) → nat_eq n 0 ≡ test → IsModuleReader (cond test (behind_term plus joins nothing) module_stuck) (tokens ++ plus_sign ∷ [])
  unfolding behind_term
  behind_zero-plus true is = opens_sum joins nothing tokens (zero_term joins n is h)
  behind_zero-plus false is = tt

  behind_zero-minus : (test : Bool) → nat_eq n 0 ≡ test → IsModuleReader (cond test (behind_term minus joins nothing) module_stuck) (tokens ++ minus_sign ∷ [])
  unfolding behind_term
  behind_zero-minus true is = opens_difference joins nothing tokens (zero_term joins n is h)
  behind_zero-minus false is = tt

  behind_number-sound : (s : Sign) → IsModuleReader (behind_number s joins n) (tokens ++ symbol (sign_byte s) ∷ [])
  unfolding behind_number
  behind_number-sound times = grows (IsNumeral n) (Behind (IsNumeral n) (times_sign ∷ [])) times_sign (λ own k. record { front = own; are = refl; holds = k }) h
  behind_number-sound plus = behind_zero-plus (nat_eq n 0) refl
  behind_number-sound minus = behind_zero-minus (nat_eq n 0) refl
  behind_number-sound raise = tt
  behind_number-sound open_ = tt
  behind_number-sound close_ = tt
  behind_number-sound other = tt

before_term-sound : (joins : ModuleExpression → ModuleExpression) (first : Bool) (tokens : List Token) → IsOpen joins first tokens → (s : Sign)
    → IsModuleReader (before_term s first) (tokens ++ symbol (sign_byte s) ∷ [])
unfolding before_term
before_term-sound joins true tokens h plus = subst (λ ts. IsModuleReader (module_reading (λ m. m) (term_wanted false)) (ts ++ plus_sign ∷ [])) (sym (h.none refl))
    (record { joined = λ back n k. modules.with_plus k; none = λ e. absurd (cc) })
before_term-sound joins false tokens h plus = tt
before_term-sound joins true tokens h minus = subst (λ ts. IsModuleReader (module_reading modules.opposite (term_wanted false)) (ts ++ minus_sign ∷ [])) (sym (h.none refl))
    (record { joined = λ back n k. modules.with_minus k; none = λ e. absurd (cc) })
before_term-sound joins false tokens h minus = tt
before_term-sound joins first tokens h times = tt
before_term-sound joins first tokens h raise = tt
before_term-sound joins first tokens h open_ = tt
before_term-sound joins first tokens h close_ = tt
before_term-sound joins first tokens h other = tt

-- a token within a factor, or behind it

none_inside : (stack : List Frame) (frame : Frame) (state : Reading) → expression_read (reading (stack ++ blank ∷ []) frame state) ≡ None
unfolding expression_read
none_inside [] frame state = refl
none_inside (outer ∷ stack) frame state = refl

scaled_spelled : (n : ℕ) (x : List ℕ) (own : List Token) → Behind (IsNumeral n) (times_sign ∷ []) own → ModuleSpell generated (own ++ name x ∷ []) (generator (Some n) x)
scaled_spelled n x own k =
    let tokens : number k.holds.digits ∷ times_sign ∷ [] ≡ own = ap (λ ts. ts ++ times_sign ∷ []) k.holds.are ∙ k.are in
    subst (λ v. ModuleSpell generated (own ++ name x ∷ []) (generator (Some v) x)) k.holds.value
    (subst (λ ts. ModuleSpell generated (ts ++ name x ∷ []) (generator (Some (number_value k.holds.digits)) x)) tokens (scaled k.holds.digits x))

in_factor-sound : (joins : ModuleExpression → ModuleExpression) (m : ModuleExpression) (r : Reader) {tokens : List Token} → InTerm joins (IsMultiplied m r) tokens
    → IsModuleReader (in_factor joins m r) tokens
unfolding in_factor
in_factor-sound joins m stuck h = tt
in_factor-sound joins m (reading stack frame state) h = h

module _ (joins : ModuleExpression → ModuleExpression) (m : ModuleExpression) (front : List Token) (spelled : ModuleSpell generated front m) (tokens : List Token) where
  -- the term's last factor, as far as it was read
  abbrev Multiplied : List Token → Type 0
  Multiplied back = InTerm joins (λ own. front ++ times_sign ∷ back ≡ own) tokens

  ended : (back : List Token) (e : Expression) → Spell factor back e → Multiplied back → InTerm joins (λ own. ModuleSpell generated own (modules.product m e)) tokens
  ended back e k h = holds_of (λ own. front ++ times_sign ∷ back ≡ own) (λ own. ModuleSpell generated own (modules.product m e)) (λ own are. modules.multiplied spelled k (sym are)) h

  goes_on : (r : Reader) (back : List Token) (t : Token) → IsFactorReader r (back ++ t ∷ []) → Multiplied back → IsModuleReader (in_factor joins m r) (tokens ++ t ∷ [])
  goes_on r back t k h = in_factor-sound joins m r (grows (λ own. front ++ times_sign ∷ back ≡ own) (IsMultiplied m r) t (λ own are. record {
    front = front;
    back = back ++ t ∷ [];
    are = sym (append_assoc front (times_sign ∷ back) (t ∷ [])) ∙ ap (λ ts. ts ++ t ∷ []) are;
    spelled = spelled;
    reader = k;
  }) h)

  at_sign : (raisable : Bool) (back : List Token) (e : Expression) → Spell (standing_rank raisable) back e → Multiplied back → (s : Sign)
      → IsModuleReader (cond (is_joining s) (behind_term s joins (modules.product m e)) (in_factor joins m (at_standing s [] blank e raisable))) (tokens ++ symbol (sign_byte s) ∷ [])
  unfolding at_standing close
  at_sign raisable back e k h times = behind_term-sound joins (modules.product m e) tokens (ended back e (as_factor raisable k) h) times
  at_sign raisable back e k h plus = behind_term-sound joins (modules.product m e) tokens (ended back e (as_factor raisable k) h) plus
  at_sign raisable back e k h minus = behind_term-sound joins (modules.product m e) tokens (ended back e (as_factor raisable k) h) minus
  at_sign true back e k h raise = goes_on (reading [] blank (raising e)) back power_sign (before_power k refl) h
  at_sign false back e k h raise = goes_on stuck back power_sign lost h
  at_sign raisable back e k h open_ = goes_on stuck back open_sign lost h
  at_sign raisable back e k h close_ = goes_on stuck back close_sign lost h
  at_sign raisable back e k h other = goes_on stuck back (symbol 0) lost h

  at_factor : (raisable : Bool) (back : List Token) (e : Expression) → Spell (standing_rank raisable) back e → Multiplied back → (t : Token)
      → IsModuleReader (behind_factor joins m (reading [] blank (stands raisable e)) (Some e) t) (tokens ++ t ∷ [])
  unfolding behind_factor read at_standing
  at_factor raisable back e k h (name x) = goes_on stuck back (name x) lost h
  at_factor raisable back e k h (number digits) = goes_on stuck back (number digits) lost h
  at_factor raisable back e k h (symbol b) = with_sign
      (λ s n. IsModuleReader (cond (is_joining s) (behind_term s joins (modules.product m e)) (in_factor joins m (at_standing s [] blank e raisable))) (tokens ++ symbol n ∷ []))
      (at_sign raisable back e k h) (λ n. goes_on stuck back (symbol n) lost h) b signs

  at_unfinished : (r : Reader) (back : List Token) (t : Token) → expression_read r ≡ None → IsFactorReader (read r t) (back ++ t ∷ []) → Multiplied back
      → IsModuleReader (behind_factor joins m r (expression_read r) t) (tokens ++ t ∷ [])
  unfolding behind_factor
  at_unfinished r back t none k h = subst (λ whole. IsModuleReader (behind_factor joins m r whole t) (tokens ++ t ∷ [])) (sym none) (goes_on (read r t) back t k h)

  behind_factor-sound : {r : Reader} {back : List Token} → IsFactorReader r back → Multiplied back → (t : Token) → IsModuleReader (behind_factor joins m r (expression_read r) t) (tokens ++ t ∷ [])
  unfolding expression_read read
  behind_factor-sound (lost {tokens}) h t = at_unfinished stuck tokens t refl lost h
  behind_factor-sound begun h t = at_unfinished factor_start [] t refl (read_begun t) h
  behind_factor-sound (standing raisable {tokens} {e} k) h t = at_factor raisable tokens e k h t
  behind_factor-sound (before_power {tokens} {e} k are) h t = at_unfinished (reading [] blank (raising e)) tokens t refl (read_power k are t) h
  behind_factor-sound (before_inverse {tokens} {e} k are) h t = at_unfinished (reading [] blank (inverting e)) tokens t refl (read_inverse k are t) h
  behind_factor-sound (inside stack {frame} {state} {inner} k) h t =
      at_unfinished (reading (stack ++ blank ∷ []) frame state) (open_sign ∷ inner) t (none_inside stack frame state) (read_inside stack frame inner state t k) h

  whole_factor : {r : Reader} {back : List Token} → IsFactorReader r back → Multiplied back → (q : ModuleExpression) → multiplied_whole joins m (expression_read r) ≡ Some q → ModuleSpell modules.whole tokens q
  unfolding expression_read
  whole_factor lost h q is = absurd (cc)
  whole_factor begun h q is = absurd (cc)
  whole_factor (standing raisable {tokens = back} {e} k) h q is =
      let same : joins (modules.product m e) ≡ q = (cc) in
      subst (λ n. ModuleSpell modules.whole tokens n) same
      (whole_of joins (modules.product m e) tokens (as_term joins (modules.product m e) tokens (ended back e (as_factor raisable k) h)))
  whole_factor (before_power k are) h q is = absurd (cc)
  whole_factor (before_inverse k are) h q is = absurd (cc)
  whole_factor (inside stack {frame} {state} k) h q is =
      let none : multiplied_whole joins m (expression_read (reading (stack ++ blank ∷ []) frame state)) ≡ None = ap (multiplied_whole joins m) (none_inside stack frame state) in
      absurd (cc)

-- one token more

multiplied_part : (joins : ModuleExpression → ModuleExpression) (m : ModuleExpression) (r : Reader) {tokens : List Token} (h : InTerm joins (IsMultiplied m r) tokens)
    → InTerm joins (λ own. h.holds.front ++ times_sign ∷ h.holds.back ≡ own) tokens
multiplied_part joins m r h = record { sums = h.sums; own = h.own; are = h.are; joined = h.joined; holds = h.holds.are }

module_read-sound : (r : ModuleReader) (t : Token) (tokens : List Token) → IsModuleReader r tokens → IsModuleReader (module_read r t) (tokens ++ t ∷ [])
unfolding module_read before_term behind_number behind_term
module_read-sound module_stuck t tokens h = tt
module_read-sound (module_reading joins (term_wanted first)) (name x) tokens h = enters first (λ own. ModuleSpell generated own (generator None x)) (name x) h (a_generator x)
module_read-sound (module_reading joins (term_wanted first)) (number digits) tokens h =
    enters first (IsNumeral (number_value digits)) (number digits) h (record { digits = digits; are = refl; value = refl })
module_read-sound (module_reading joins (term_wanted first)) (symbol b) tokens h =
    with_sign (λ s n. IsModuleReader (before_term s first) (tokens ++ symbol n ∷ [])) (before_term-sound joins first tokens h) (λ n. tt) b signs
module_read-sound (module_reading joins (numbered n)) (name x) tokens h = tt
module_read-sound (module_reading joins (numbered n)) (number digits) tokens h = tt
module_read-sound (module_reading joins (numbered n)) (symbol b) tokens h =
    with_sign (λ s k. IsModuleReader (behind_number s joins n) (tokens ++ symbol k ∷ [])) (behind_number-sound joins n tokens h) (λ k. tt) b signs
module_read-sound (module_reading joins (scaling n)) (name x) tokens h =
    grows (Behind (IsNumeral n) (times_sign ∷ [])) (λ own. ModuleSpell generated own (generator (Some n) x)) (name x) (λ own k. scaled_spelled n x own k) h
module_read-sound (module_reading joins (scaling n)) (number digits) tokens h = tt
module_read-sound (module_reading joins (scaling n)) (symbol b) tokens h = tt
module_read-sound (module_reading joins (term_stands m)) (name x) tokens h = tt
module_read-sound (module_reading joins (term_stands m)) (number digits) tokens h = tt
module_read-sound (module_reading joins (term_stands m)) (symbol b) tokens h =
    with_sign (λ s n. IsModuleReader (behind_term s joins m) (tokens ++ symbol n ∷ [])) (behind_term-sound joins m tokens h) (λ n. tt) b signs
module_read-sound (module_reading joins (multiplying m r)) t tokens h =
    behind_factor-sound joins m h.holds.front h.holds.spelled tokens h.holds.reader (multiplied_part joins m r h) t

module_read_all-sound : (r : ModuleReader) (front tokens : List Token) → IsModuleReader r front → IsModuleReader (module_read_all r tokens) (front ++ tokens)
unfolding module_read_all
module_read_all-sound r front [] h = subst (λ ts. IsModuleReader r ts) (sym (append-nil front)) h
module_read_all-sound r front (t ∷ tokens) h = subst (λ ts. IsModuleReader (module_read_all (module_read r t) tokens) ts) (append_assoc front (t ∷ []) tokens)
    (module_read_all-sound (module_read r t) (front ++ t ∷ []) tokens (module_read-sound r t front h))

-- what was read in the end

whole_number : (joins : ModuleExpression → ModuleExpression) (n : ℕ) (tokens : List Token) (q : ModuleExpression) → InTerm joins (IsNumeral n) tokens → (test : Bool) → nat_eq n 0 ≡ test
    → cond test (Some (joins nothing)) None ≡ Some q → ModuleSpell modules.whole tokens q
whole_number joins n tokens q h true zero is =
    let same : joins nothing ≡ q = (cc) in subst (λ m. ModuleSpell modules.whole tokens m) same (whole_of joins nothing tokens (zero_term joins n zero h))
whole_number joins n tokens q h false zero is = absurd (cc)

module_whole_read : (r : ModuleReader) (tokens : List Token) (q : ModuleExpression) → IsModuleReader r tokens → module_expression_read r ≡ Some q → ModuleSpell modules.whole tokens q
unfolding module_expression_read
module_whole_read module_stuck tokens q h is = absurd (cc)
module_whole_read (module_reading joins (term_wanted first)) tokens q h is = absurd (cc)
module_whole_read (module_reading joins (numbered n)) tokens q h is = whole_number joins n tokens q h (nat_eq n 0) refl is
module_whole_read (module_reading joins (scaling n)) tokens q h is = absurd (cc)
module_whole_read (module_reading joins (term_stands m)) tokens q h is =
    let same : joins m ≡ q = (cc) in subst (λ n. ModuleSpell modules.whole tokens n) same (whole_of joins m tokens (as_term joins m tokens h))
module_whole_read (module_reading joins (multiplying m r)) tokens q h is =
    whole_factor joins m h.holds.front h.holds.spelled tokens h.holds.reader (multiplied_part joins m r h) q is

-- what is parsed is spelled
pub spelled-module_parsed : (tokens : List Token) (m : ModuleExpression) → module_parsed tokens ≡ Some m → ModuleSpell modules.whole tokens m
unfolding module_parsed
spelled-module_parsed tokens m is = module_whole_read (module_read_all module_start tokens) tokens m
    (module_read_all-sound module_start [] tokens (record { joined = λ back n k. modules.first_term k; none = λ e. refl })) is
