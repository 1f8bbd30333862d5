-- What is parsed is spelled.
use Rattle.std.proofs.Common.{◌≡◌, ℕ, Bool, true, false, cond, subst, List, [], ◌∷◌, ◌++◌, Some, refl, sym, ap, ◌∙◌, append_assoc, append-nil}
use Rattle.std.specs.Prelude.{nat_eq}
use Rattle.std.proofs.lemmas.Bool.{eqb-true}
use Rattle.ve_formats.specs.Tokens.{Token, name, number, symbol, number_value}
use Rattle.ve_formats.specs.Expressions.{Expression, constant, letter, power, inverse_power, product, opposite, sum, difference, Rank, atom, factor, term, whole, Spell, a_number, a_name, in_parentheses, a_factor, raised, raised_inverse, a_term, multiplied, first_term, with_plus, with_minus, added, subtracted, open_sign, close_sign, plus_sign, minus_sign, times_sign, power_sign}
use Rattle.ve_formats.specs.Reading.{Frame, Reading, wanted, stands, raising, inverting, Reader, stuck, reading, joining, blank, closed, close, Sign, plus, minus, times, raise, open_, close_, other, sign_byte, first_sign, signs, at_wanted, at_standing, at_raising, read, read_all, expression_read, parsed}

-- the tokens that a frame stands for
pub record IsFrame (frame : Frame) (tokens : List Token) : Type 0 where
  pub sums : List Token
  pub factors : List Token
  pub are : sums ++ factors ≡ tokens
  pub joins : (back : List Token) (e : Expression) → Spell term back e → Spell whole (sums ++ back) (frame.joins e)
  pub times : (back : List Token) (e : Expression) → Spell factor back e → Spell term (factors ++ back) (frame.times e)

-- a frame, and an expression of a rank behind it
pub record StandsBehind (frame : Frame) (rank : Rank) (e : Expression) (tokens : List Token) : Type 0 where
  pub front : List Token
  pub own : List Token
  pub are : front ++ own ≡ tokens
  pub framed : IsFrame frame front
  pub spelled : Spell rank own e

abbrev pub standing_rank : Bool → Rank
standing_rank true = atom
standing_rank false = factor

pub record IsOpen (frame : Frame) (first : Bool) (tokens : List Token) : Type 0 where
  pub framed : IsFrame frame tokens
  pub none : first ≡ true → tokens ≡ []

pub record Behind (Q : List Token → Type 0) (last : List Token) (tokens : List Token) : Type 0 where
  pub front : List Token
  pub are : front ++ last ≡ tokens
  pub holds : Q front

abbrev pub IsReading : Frame → Reading → List Token → Type 0
IsReading frame (wanted first) tokens = IsOpen frame first tokens
IsReading frame (stands raisable e) tokens = StandsBehind frame (standing_rank raisable) e tokens
IsReading frame (raising e) tokens = Behind (StandsBehind frame atom e) (power_sign ∷ []) tokens
IsReading frame (inverting e) tokens = Behind (StandsBehind frame atom e) (power_sign ∷ minus_sign ∷ []) tokens

pub record Parts (P Q : List Token → Type 0) (tokens : List Token) : Type 0 where
  pub front : List Token
  pub back : List Token
  pub are : front ++ back ≡ tokens
  pub before : P front
  pub behind : Q back

abbrev pub IsStack : List Frame → List Token → Type 0
IsStack [] tokens = tokens ≡ []
IsStack (frame ∷ stack) tokens = Parts (IsStack stack) (Behind (IsFrame frame) (open_sign ∷ [])) tokens

abbrev pub IsReader : Reader → List Token → Type 0
IsReader stuck tokens = Unit {0}
IsReader (reading stack frame state) tokens = Parts (IsStack stack) (IsReading frame state) tokens

-- a fresh frame

joins_first : (join : Expression → Expression) (sums : List Token) → ((back : List Token) (e : Expression) → Spell term back e → Spell whole (sums ++ back) (join e)) → IsFrame (joining join) sums
joins_first join sums h = record { sums = sums; factors = []; are = append-nil sums; joins = h; times = λ back e k. a_term k }

blank_frame : IsFrame blank []
blank_frame = joins_first (λ e. e) [] (λ back e h. first_term h)

-- what stands behind a frame, whole

pub as_factor : (raisable : Bool) {tokens : List Token} {e : Expression} → Spell (standing_rank raisable) tokens e → Spell factor tokens e
as_factor true h = a_factor h
as_factor false h = h

standing_term : (raisable : Bool) {frame : Frame} {e : Expression} {tokens : List Token} (h : StandsBehind frame (standing_rank raisable) e tokens)
    → Spell term (h.framed.factors ++ h.own) (frame.times e)
standing_term raisable {e} h = h.framed.times h.own e (as_factor raisable h.spelled)

standing_parts : (raisable : Bool) {frame : Frame} {e : Expression} {tokens : List Token} (h : StandsBehind frame (standing_rank raisable) e tokens)
    → h.framed.sums ++ (h.framed.factors ++ h.own) ≡ tokens
standing_parts raisable h = sym (append_assoc h.framed.sums h.framed.factors h.own) ∙ ap (λ ts. ts ++ h.own) h.framed.are ∙ h.are

pub standing_whole : (raisable : Bool) {frame : Frame} {e : Expression} {tokens : List Token} → StandsBehind frame (standing_rank raisable) e tokens → Spell whole tokens (closed frame e)
standing_whole raisable {frame} {e} h =
    subst (λ ts. Spell whole ts (closed frame e)) (standing_parts raisable h) (h.framed.joins (h.framed.factors ++ h.own) (frame.times e) (standing_term raisable h))

-- one token more, with the same parentheses open

module _ {frame : Frame} {tokens : List Token} where
  stands_name : {first : Bool} (x : List ℕ) → IsOpen frame first tokens → IsReading frame (stands true (letter x)) (tokens ++ name x ∷ [])
  stands_name x h = record { front = tokens; own = name x ∷ []; are = refl; framed = h.framed; spelled = a_name x }

  stands_number : {first : Bool} (digits : List ℕ) → IsOpen frame first tokens → IsReading frame (stands true (constant (number_value digits))) (tokens ++ number digits ∷ [])
  stands_number digits h = record { front = tokens; own = number digits ∷ []; are = refl; framed = h.framed; spelled = a_number digits }

  opens_plus : {first : Bool} → first ≡ true → IsOpen frame first tokens → IsReading blank (wanted false) (tokens ++ plus_sign ∷ [])
  opens_plus is h = subst (λ ts. IsReading blank (wanted false) (ts ++ plus_sign ∷ [])) (sym (h.none is))
      (record { framed = joins_first (λ e. e) (plus_sign ∷ []) (λ back e k. with_plus k); none = λ e. absurd (cc) })

  opens_minus : {first : Bool} → first ≡ true → IsOpen frame first tokens → IsReading (joining opposite) (wanted false) (tokens ++ minus_sign ∷ [])
  opens_minus is h = subst (λ ts. IsReading (joining opposite) (wanted false) (ts ++ minus_sign ∷ [])) (sym (h.none is))
      (record { framed = joins_first (λ e. opposite e) (minus_sign ∷ []) (λ back e k. with_minus k); none = λ e. absurd (cc) })

  starts_raising : {e : Expression} → StandsBehind frame atom e tokens → IsReading frame (raising e) (tokens ++ power_sign ∷ [])
  starts_raising h = record { front = tokens; are = refl; holds = h }

  raises : {e : Expression} (digits : List ℕ) → IsReading frame (raising e) tokens → IsReading frame (stands false (power e (number_value digits))) (tokens ++ number digits ∷ [])
  raises digits h = let k = h.holds in record {
    front = k.front;
    own = k.own ++ power_sign ∷ number digits ∷ [];
    are = sym (append_assoc k.front k.own (power_sign ∷ number digits ∷ [])) ∙ ap (λ ts. ts ++ power_sign ∷ number digits ∷ []) k.are
        ∙ sym (append_assoc h.front (power_sign ∷ []) (number digits ∷ [])) ∙ ap (λ ts. ts ++ number digits ∷ []) h.are;
    framed = k.framed;
    spelled = raised digits k.spelled refl;
  }

  starts_inverting : {e : Expression} → IsReading frame (raising e) tokens → IsReading frame (inverting e) (tokens ++ minus_sign ∷ [])
  starts_inverting h = record { front = h.front; are = sym (append_assoc h.front (power_sign ∷ []) (minus_sign ∷ [])) ∙ ap (λ ts. ts ++ minus_sign ∷ []) h.are; holds = h.holds }

  inverts : {e : Expression} (digits : List ℕ) → IsReading frame (inverting e) tokens → IsReading frame (stands false (inverse_power e (number_value digits))) (tokens ++ number digits ∷ [])
  inverts digits h = let k = h.holds in record {
    front = k.front;
    own = k.own ++ power_sign ∷ minus_sign ∷ number digits ∷ [];
    are = sym (append_assoc k.front k.own (power_sign ∷ minus_sign ∷ number digits ∷ [])) ∙ ap (λ ts. ts ++ power_sign ∷ minus_sign ∷ number digits ∷ []) k.are
        ∙ sym (append_assoc h.front (power_sign ∷ minus_sign ∷ []) (number digits ∷ [])) ∙ ap (λ ts. ts ++ number digits ∷ []) h.are;
    framed = k.framed;
    spelled = raised_inverse digits k.spelled refl;
  }

  module _ (raisable : Bool) {e : Expression} (h : StandsBehind frame (standing_rank raisable) e tokens) where
    opens_factor : IsReading (record { joins = frame.joins; times = λ f. product (frame.times e) f }) (wanted false) (tokens ++ times_sign ∷ [])
    opens_factor = record {
      framed = record {
        sums = h.framed.sums;
        factors = (h.framed.factors ++ h.own) ++ times_sign ∷ [];
        are = sym (append_assoc h.framed.sums (h.framed.factors ++ h.own) (times_sign ∷ [])) ∙ ap (λ ts. ts ++ times_sign ∷ []) (standing_parts raisable h);
        joins = h.framed.joins;
        times = λ back f k. multiplied (standing_term raisable h) k (append_assoc (h.framed.factors ++ h.own) (times_sign ∷ []) back);
      };
      none = λ e. absurd (cc);
    }

    opens_term : IsReading (joining (λ f. sum (closed frame e) f)) (wanted false) (tokens ++ plus_sign ∷ [])
    opens_term = record {
      framed = joins_first (λ f. sum (closed frame e) f) (tokens ++ plus_sign ∷ []) (λ back f k. added (standing_whole raisable h) k (append_assoc tokens (plus_sign ∷ []) back));
      none = λ e. absurd (cc);
    }

    opens_difference : IsReading (joining (λ f. difference (closed frame e) f)) (wanted false) (tokens ++ minus_sign ∷ [])
    opens_difference = record {
      framed = joins_first (λ f. difference (closed frame e) f) (tokens ++ minus_sign ∷ []) (λ back f k. subtracted (standing_whole raisable h) k (append_assoc tokens (minus_sign ∷ []) back));
      none = λ e. absurd (cc);
    }

-- a parenthesis more or less

opened : (stack : List Frame) (frame : Frame) {first : Bool} {tokens : List Token} → IsReader (reading stack frame (wanted first)) tokens
    → IsReader (reading (frame ∷ stack) blank (wanted true)) (tokens ++ open_sign ∷ [])
opened stack frame {tokens} h = record {
  front = tokens ++ open_sign ∷ [];
  back = [];
  are = append-nil (tokens ++ open_sign ∷ []);
  before = record {
    front = h.front;
    back = h.back ++ open_sign ∷ [];
    are = sym (append_assoc h.front h.back (open_sign ∷ [])) ∙ ap (λ ts. ts ++ open_sign ∷ []) h.are;
    before = h.before;
    behind = record { front = h.back; are = refl; holds = h.behind.framed };
  };
  behind = record { framed = blank_frame; none = λ e. refl };
}

closes : (stack : List Frame) (frame : Frame) (raisable : Bool) {e : Expression} {tokens : List Token} → IsReader (reading stack frame (stands raisable e)) tokens
    → IsReader (close stack (closed frame e)) (tokens ++ close_sign ∷ [])
unfolding close
closes [] frame raisable h = tt
closes (outer ∷ stack) frame raisable {e} {tokens} h =
    let own : List Token = (open_sign ∷ h.back) ++ close_sign ∷ [] in
    record {
      front = h.before.front;
      back = h.before.behind.front ++ own;
      are =
          ap (λ ts. h.before.front ++ ts) (sym (append_assoc h.before.behind.front (open_sign ∷ []) (h.back ++ close_sign ∷ [])))
          ∙ ap (λ ts. h.before.front ++ (ts ++ (h.back ++ close_sign ∷ []))) h.before.behind.are
          ∙ sym (append_assoc h.before.front h.before.back (h.back ++ close_sign ∷ []))
          ∙ ap (λ ts. ts ++ (h.back ++ close_sign ∷ [])) h.before.are
          ∙ sym (append_assoc h.front h.back (close_sign ∷ []))
          ∙ ap (λ ts. ts ++ close_sign ∷ []) h.are;
      before = h.before.before;
      behind = record { front = h.before.behind.front; own = own; are = refl; framed = h.before.behind.holds; spelled = in_parentheses (standing_whole raisable h.behind) refl };
    }

-- one token more

more : (stack : List Frame) (frame next : Frame) (state later : Reading) (t : Token) {tokens : List Token}
    → ((own : List Token) → IsReading frame state own → IsReading next later (own ++ t ∷ []))
    → IsReader (reading stack frame state) tokens → IsReader (reading stack next later) (tokens ++ t ∷ [])
more stack frame next state later t step h = record {
  front = h.front;
  back = h.back ++ t ∷ [];
  are = sym (append_assoc h.front h.back (t ∷ [])) ∙ ap (λ ts. ts ++ t ∷ []) h.are;
  before = h.before;
  behind = step h.back h.behind;
}

-- what holds of each sign at its byte, and of other bytes, holds of each byte
pub with_sign : (Q : Sign → ℕ → Type 0) → ((s : Sign) → Q s (sign_byte s)) → ((b : ℕ) → Q other b) → (b : ℕ) (among : List Sign) → Q (first_sign b among) b
with_sign Q known unknown b [] = unknown b
with_sign Q known unknown b (s ∷ among) = by_test (nat_eq b (sign_byte s)) refl (with_sign Q known unknown b among)
  where
    by_test : (test : Bool) → nat_eq b (sign_byte s) ≡ test → Q (first_sign b among) b → Q (cond test s (first_sign b among)) b
    by_test true is later = subst (λ n. Q s n) (sym (eqb-true b (sign_byte s) is)) (known s)
    by_test false is later = later

pub at_wanted-sound : (stack : List Frame) (frame : Frame) (first : Bool) (tokens : List Token) → IsReader (reading stack frame (wanted first)) tokens → (s : Sign)
    → IsReader (at_wanted s stack frame first) (tokens ++ symbol (sign_byte s) ∷ [])
unfolding at_wanted
at_wanted-sound stack frame first tokens h open_ = opened stack frame h
at_wanted-sound stack frame true tokens h plus = more stack frame blank (wanted true) (wanted false) plus_sign (λ own k. opens_plus refl k) h
at_wanted-sound stack frame false tokens h plus = tt
at_wanted-sound stack frame true tokens h minus = more stack frame (joining opposite) (wanted true) (wanted false) minus_sign (λ own k. opens_minus refl k) h
at_wanted-sound stack frame false tokens h minus = tt
at_wanted-sound stack frame first tokens h times = tt
at_wanted-sound stack frame first tokens h raise = tt
at_wanted-sound stack frame first tokens h close_ = tt
at_wanted-sound stack frame first tokens h other = tt

pub at_standing-sound : (stack : List Frame) (frame : Frame) (raisable : Bool) (e : Expression) (tokens : List Token) → IsReader (reading stack frame (stands raisable e)) tokens → (s : Sign)
    → IsReader (at_standing s stack frame e raisable) (tokens ++ symbol (sign_byte s) ∷ [])
unfolding at_standing
at_standing-sound stack frame true e tokens h raise = more stack frame frame (stands true e) (raising e) power_sign (λ own k. starts_raising k) h
at_standing-sound stack frame false e tokens h raise = tt
at_standing-sound stack frame raisable e tokens h times =
    more stack frame (record { joins = frame.joins; times = λ f. product (frame.times e) f }) (stands raisable e) (wanted false) times_sign (λ own k. opens_factor raisable k) h
at_standing-sound stack frame raisable e tokens h plus =
    more stack frame (joining (λ f. sum (closed frame e) f)) (stands raisable e) (wanted false) plus_sign (λ own k. opens_term raisable k) h
at_standing-sound stack frame raisable e tokens h minus =
    more stack frame (joining (λ f. difference (closed frame e) f)) (stands raisable e) (wanted false) minus_sign (λ own k. opens_difference raisable k) h
at_standing-sound stack frame raisable e tokens h close_ = closes stack frame raisable h
at_standing-sound stack frame raisable e tokens h open_ = tt
at_standing-sound stack frame raisable e tokens h other = tt

pub at_raising-sound : (stack : List Frame) (frame : Frame) (e : Expression) (tokens : List Token) → IsReader (reading stack frame (raising e)) tokens → (s : Sign)
    → IsReader (at_raising s stack frame e) (tokens ++ symbol (sign_byte s) ∷ [])
unfolding at_raising
at_raising-sound stack frame e tokens h minus = more stack frame frame (raising e) (inverting e) minus_sign (λ own k. starts_inverting k) h
at_raising-sound stack frame e tokens h plus = tt
at_raising-sound stack frame e tokens h times = tt
at_raising-sound stack frame e tokens h raise = tt
at_raising-sound stack frame e tokens h open_ = tt
at_raising-sound stack frame e tokens h close_ = tt
at_raising-sound stack frame e tokens h other = tt

pub read-sound : (r : Reader) (t : Token) (tokens : List Token) → IsReader r tokens → IsReader (read r t) (tokens ++ t ∷ [])
unfolding read at_wanted at_standing at_raising
read-sound stuck t tokens h = tt
read-sound (reading stack frame (wanted first)) (name x) tokens h = more stack frame frame (wanted first) (stands true (letter x)) (name x) (λ own k. stands_name x k) h
read-sound (reading stack frame (wanted first)) (number digits) tokens h =
    more stack frame frame (wanted first) (stands true (constant (number_value digits))) (number digits) (λ own k. stands_number digits k) h
read-sound (reading stack frame (wanted first)) (symbol b) tokens h =
    with_sign (λ s n. IsReader (at_wanted s stack frame first) (tokens ++ symbol n ∷ [])) (at_wanted-sound stack frame first tokens h) (λ n. tt) b signs
read-sound (reading stack frame (stands raisable e)) (name x) tokens h = tt
read-sound (reading stack frame (stands raisable e)) (number digits) tokens h = tt
read-sound (reading stack frame (stands raisable e)) (symbol b) tokens h =
    with_sign (λ s n. IsReader (at_standing s stack frame e raisable) (tokens ++ symbol n ∷ [])) (at_standing-sound stack frame raisable e tokens h) (λ n. tt) b signs
read-sound (reading stack frame (raising e)) (name x) tokens h = tt
read-sound (reading stack frame (raising e)) (number digits) tokens h =
    more stack frame frame (raising e) (stands false (power e (number_value digits))) (number digits) (λ own k. raises digits k) h
read-sound (reading stack frame (raising e)) (symbol b) tokens h =
    with_sign (λ s n. IsReader (at_raising s stack frame e) (tokens ++ symbol n ∷ [])) (at_raising-sound stack frame e tokens h) (λ n. tt) b signs
read-sound (reading stack frame (inverting e)) (name x) tokens h = tt
read-sound (reading stack frame (inverting e)) (number digits) tokens h =
    more stack frame frame (inverting e) (stands false (inverse_power e (number_value digits))) (number digits) (λ own k. inverts digits k) h
read-sound (reading stack frame (inverting e)) (symbol b) tokens h = tt

read_all-sound : (r : Reader) (front tokens : List Token) → IsReader r front → IsReader (read_all r tokens) (front ++ tokens)
unfolding read_all
read_all-sound r front [] h = subst (λ ts. IsReader r ts) (sym (append-nil front)) h
read_all-sound r front (t ∷ tokens) h =
    subst (λ ts. IsReader (read_all (read r t) tokens) ts) (append_assoc front (t ∷ []) tokens) (read_all-sound (read r t) (front ++ t ∷ []) tokens (read-sound r t front h))

whole_read : (r : Reader) (tokens : List Token) (e : Expression) → IsReader r tokens → expression_read r ≡ Some e → Spell whole tokens e
unfolding expression_read
whole_read stuck tokens e h is = absurd (cc)
whole_read (reading [] frame (wanted first)) tokens e h is = absurd (cc)
whole_read (reading [] frame (stands raisable f)) tokens e h is =
    let all : h.back ≡ tokens = ap (λ ts. ts ++ h.back) (sym h.before) ∙ h.are in
    let same : closed frame f ≡ e = (cc) in
    subst (λ d. Spell whole tokens d) same (subst (λ ts. Spell whole ts (closed frame f)) all (standing_whole raisable h.behind))
whole_read (reading [] frame (raising f)) tokens e h is = absurd (cc)
whole_read (reading [] frame (inverting f)) tokens e h is = absurd (cc)
whole_read (reading (outer ∷ stack) frame state) tokens e h is = absurd (cc)

-- before an expression
pub starts : IsReader (reading [] blank (wanted true)) []
starts = record { front = []; back = []; are = refl; before = refl; behind = record { framed = blank_frame; none = λ e. refl } }

-- what is parsed is spelled
pub spelled-parsed : (tokens : List Token) (e : Expression) → parsed tokens ≡ Some e → Spell whole tokens e
unfolding parsed
spelled-parsed tokens e is =
    whole_read (read_all (reading [] blank (wanted true)) tokens) tokens e (read_all-sound (reading [] blank (wanted true)) [] tokens starts) is
