-- The tokens of an expression are read as that expression.
use Rattle.std.proofs.Common.{◌≡◌, ℕ, Bool, true, false, subst, List, [], ◌∷◌, ◌++◌, Some, refl, sym, ap, ◌∙◌}
use Rattle.ve_formats.specs.Tokens.{Token, number, number_value}
use Rattle.ve_formats.specs.Reading.{Frame, wanted, stands, Reader, reading, joining, blank, closed, close, at_wanted, at_standing, at_raising, read, read_all, expression_read, parsed}
use Rattle.ve_formats.specs.Expressions.{Expression, grouped, power, inverse_power, product, opposite, sum, difference, Rank, atom, factor, term, whole, Spell, a_number, a_name, in_parentheses, a_factor, raised, raised_inverse, a_term, multiplied, first_term, with_plus, with_minus, added, subtracted, open_sign, close_sign, plus_sign, minus_sign, times_sign, power_sign}

pub read_all-append : (r : Reader) (front back : List Token) → read_all r (front ++ back) ≡ read_all (read_all r front) back
unfolding read_all
read_all-append r [] back = refl
read_all-append r (t ∷ front) back = read_all-append (read r t) front back

-- what tokens of a rank leave of a reader
abbrev pub ReadsAtom : List Token → Expression → Type 0
ReadsAtom tokens e = (stack : List Frame) (frame : Frame) (first : Bool) → read_all (reading stack frame (wanted first)) tokens ≡ reading stack frame (stands true e)

pub record ReadsFactor (tokens : List Token) (e : Expression) : Type 0 where
  pub raisable : Bool
  pub reads : (stack : List Frame) (frame : Frame) (first : Bool) → read_all (reading stack frame (wanted first)) tokens ≡ reading stack frame (stands raisable e)

pub record ReadsTerm (tokens : List Token) (e : Expression) : Type 0 where
  pub raisable : Bool
  pub last : Expression
  pub times : Expression → Expression
  pub is : times last ≡ e
  pub reads : (stack : List Frame) (join : Expression → Expression) (first : Bool)
      → read_all (reading stack (joining join) (wanted first)) tokens ≡ reading stack (record { joins = join; times = times }) (stands raisable last)

pub record ReadsWhole (tokens : List Token) (e : Expression) : Type 0 where
  pub raisable : Bool
  pub last : Expression
  pub frame : Frame
  pub is : closed frame last ≡ e
  pub reads : (stack : List Frame) → read_all (reading stack blank (wanted true)) tokens ≡ reading stack frame (stands raisable last)

abbrev pub Reads : Rank → List Token → Expression → Type 0
Reads atom tokens e = ReadsAtom tokens e
Reads factor tokens e = ReadsFactor tokens e
Reads term tokens e = ReadsTerm tokens e
Reads whole tokens e = ReadsWhole tokens e

reads_grouped : (tokens : List Token) (e : Expression) → ReadsWhole tokens e → ReadsAtom ((open_sign ∷ tokens) ++ close_sign ∷ []) (grouped e)
unfolding read_all read close at_wanted at_standing at_raising
reads_grouped tokens e h stack frame first =
    read_all-append (reading (frame ∷ stack) blank (wanted true)) tokens (close_sign ∷ [])
    ∙ ap (λ r. read_all r (close_sign ∷ [])) (h.reads (frame ∷ stack))
    ∙ ap (λ f. reading stack frame (stands true (grouped f))) h.is

reads_raised : (tokens : List Token) (e : Expression) (digits : List ℕ) → ReadsAtom tokens e → ReadsFactor (tokens ++ power_sign ∷ number digits ∷ []) (power e (number_value digits))
unfolding read_all read at_wanted at_standing at_raising
reads_raised tokens e digits h = record {
  raisable = false;
  reads = λ stack frame first.
      read_all-append (reading stack frame (wanted first)) tokens (power_sign ∷ number digits ∷ [])
      ∙ ap (λ r. read_all r (power_sign ∷ number digits ∷ [])) (h stack frame first);
}

reads_inverted : (tokens : List Token) (e : Expression) (digits : List ℕ) → ReadsAtom tokens e
    → ReadsFactor (tokens ++ power_sign ∷ minus_sign ∷ number digits ∷ []) (inverse_power e (number_value digits))
unfolding read_all read at_wanted at_standing at_raising
reads_inverted tokens e digits h = record {
  raisable = false;
  reads = λ stack frame first.
      read_all-append (reading stack frame (wanted first)) tokens (power_sign ∷ minus_sign ∷ number digits ∷ [])
      ∙ ap (λ r. read_all r (power_sign ∷ minus_sign ∷ number digits ∷ [])) (h stack frame first);
}

reads_product : (front back : List Token) (d e : Expression) → ReadsTerm front d → ReadsFactor back e → ReadsTerm (front ++ times_sign ∷ back) (product d e)
unfolding read_all read at_wanted at_standing at_raising
reads_product front back d e h k = record {
  raisable = k.raisable;
  last = e;
  times = λ f. product (h.times h.last) f;
  is = ap (λ f. product f e) h.is;
  reads = λ stack join first.
      read_all-append (reading stack (joining join) (wanted first)) front (times_sign ∷ back)
      ∙ ap (λ r. read_all r (times_sign ∷ back)) (h.reads stack join first)
      ∙ k.reads stack (record { joins = join; times = λ f. product (h.times h.last) f }) false;
}

reads_sum : (front back : List Token) (d e : Expression) → ReadsWhole front d → ReadsTerm back e → ReadsWhole (front ++ plus_sign ∷ back) (sum d e)
unfolding read_all read at_wanted at_standing at_raising
reads_sum front back d e h k = record {
  raisable = k.raisable;
  last = k.last;
  frame = record { joins = λ f. sum (closed h.frame h.last) f; times = k.times };
  is = (λ i. sum (h.is i) (k.is i));
  reads = λ stack.
      read_all-append (reading stack blank (wanted true)) front (plus_sign ∷ back)
      ∙ ap (λ r. read_all r (plus_sign ∷ back)) (h.reads stack)
      ∙ k.reads stack (λ f. sum (closed h.frame h.last) f) false;
}

reads_difference : (front back : List Token) (d e : Expression) → ReadsWhole front d → ReadsTerm back e → ReadsWhole (front ++ minus_sign ∷ back) (difference d e)
unfolding read_all read at_wanted at_standing at_raising
reads_difference front back d e h k = record {
  raisable = k.raisable;
  last = k.last;
  frame = record { joins = λ f. difference (closed h.frame h.last) f; times = k.times };
  is = (λ i. difference (h.is i) (k.is i));
  reads = λ stack.
      read_all-append (reading stack blank (wanted true)) front (minus_sign ∷ back)
      ∙ ap (λ r. read_all r (minus_sign ∷ back)) (h.reads stack)
      ∙ k.reads stack (λ f. difference (closed h.frame h.last) f) false;
}

reads_first : (tokens : List Token) (e : Expression) → ReadsTerm tokens e → ReadsWhole tokens e
reads_first tokens e h = record { raisable = h.raisable; last = h.last; frame = record { joins = λ f. f; times = h.times }; is = h.is; reads = λ stack. h.reads stack (λ f. f) true }

reads_plus : (tokens : List Token) (e : Expression) → ReadsTerm tokens e → ReadsWhole (plus_sign ∷ tokens) e
unfolding read_all read at_wanted at_standing at_raising
reads_plus tokens e h = record { raisable = h.raisable; last = h.last; frame = record { joins = λ f. f; times = h.times }; is = h.is; reads = λ stack. h.reads stack (λ f. f) false }

reads_minus : (tokens : List Token) (e : Expression) → ReadsTerm tokens e → ReadsWhole (minus_sign ∷ tokens) (opposite e)
unfolding read_all read at_wanted at_standing at_raising
reads_minus tokens e h = record {
  raisable = h.raisable;
  last = h.last;
  frame = record { joins = λ f. opposite f; times = h.times };
  is = ap opposite h.is;
  reads = λ stack. h.reads stack (λ f. opposite f) false;
}

pub reads : {rank : Rank} {tokens : List Token} {e : Expression} → Spell rank tokens e → Reads rank tokens e
unfolding read_all read at_wanted at_standing at_raising
reads (a_number digits) = λ stack frame first. refl
reads (a_name x) = λ stack frame first. refl
reads (in_parentheses {tokens} {e} h e1) = subst (λ ts. ReadsAtom ts (grouped e)) (sym e1) (reads_grouped tokens e (reads h))
reads (a_factor h) = record { raisable = true; reads = reads h }
reads (raised {tokens} {e} digits h e1) = subst (λ ts. ReadsFactor ts (power e (number_value digits))) (sym e1) (reads_raised tokens e digits (reads h))
reads (raised_inverse {tokens} {e} digits h e1) = subst (λ ts. ReadsFactor ts (inverse_power e (number_value digits))) (sym e1) (reads_inverted tokens e digits (reads h))
reads (a_term {tokens} {e} h) = let k : ReadsFactor tokens e = reads h in record { raisable = k.raisable; last = e; times = λ f. f; is = refl; reads = λ stack join first. k.reads stack (joining join) first }
reads (multiplied {front} {back} {d} {e} h k e1) = subst (λ ts. ReadsTerm ts (product d e)) (sym e1) (reads_product front back d e (reads h) (reads k))
reads (first_term {tokens} {e} h) = reads_first tokens e (reads h)
reads (with_plus {tokens} {e} h) = reads_plus tokens e (reads h)
reads (with_minus {tokens} {e} h) = reads_minus tokens e (reads h)
reads (added {front} {back} {d} {e} h k e1) = subst (λ ts. ReadsWhole ts (sum d e)) (sym e1) (reads_sum front back d e (reads h) (reads k))
reads (subtracted {front} {back} {d} {e} h k e1) = subst (λ ts. ReadsWhole ts (difference d e)) (sym e1) (reads_difference front back d e (reads h) (reads k))

-- tokens of an expression are parsed to it
pub parsed-spelled : {tokens : List Token} {e : Expression} → Spell whole tokens e → parsed tokens ≡ Some e
unfolding parsed expression_read
parsed-spelled {tokens} {e} h = let k : ReadsWhole tokens e = reads h in ap expression_read (k.reads []) ∙ ap (λ f. Some f) k.is
