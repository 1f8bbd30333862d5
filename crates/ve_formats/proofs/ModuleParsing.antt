-- The tokens of an expression of the module are read as that expression.
use Rattle.std.proofs.Common.{◌≡◌, ℕ, Bool, true, false, cond, List, [], ◌∷◌, ◌++◌, Option, Some, None, subst, refl, sym, ap, ◌∙◌}
use Rattle.std.specs.Prelude.{nat_eq}
use Rattle.ve_formats.specs.Tokens.{Token, name, number, number_value}
use Rattle.ve_formats.specs.Expressions as algebra
use Rattle.ve_formats.specs.Expressions.{Expression, grouped, Rank, atom, factor, Spell, a_number, a_name, in_parentheses, a_factor, raised, raised_inverse, open_sign, close_sign, plus_sign, minus_sign, times_sign, power_sign}
use Rattle.ve_formats.specs.ModuleExpressions as modules
use Rattle.ve_formats.specs.ModuleExpressions.{ModuleExpression, nothing, generator, ModuleRank, generated, ModuleSpell, a_generator, scaled, a_zero}
use Rattle.ve_formats.specs.Reading.{Frame, Reading, wanted, stands, raising, inverting, Reader, reading, joining, blank, closed, at_wanted, at_standing, at_raising, read, read_all, expression_read}
use Rattle.ve_formats.specs.ModuleReading.{ModuleReader, module_stuck, module_reading, term_wanted, multiplying, module_start, factor_start, in_factor, before_term, behind_term, behind_number, behind_factor, module_read, module_read_all, module_expression_read, module_parsed}
use Rattle.ve_formats.proofs.Parsing.{read_all-append, ReadsAtom, ReadsFactor, ReadsTerm, ReadsWhole, reads}

module_read_all-append : (r : ModuleReader) (front back : List Token) → module_read_all r (front ++ back) ≡ module_read_all (module_read_all r front) back
unfolding module_read_all
module_read_all-append r [] back = refl
module_read_all-append r (t ∷ front) back = module_read_all-append (module_read r t) front back

-- Within a factor the reader of the module only passes tokens on.

abbrev PassesOn : Reader → List Token → Type 0
PassesOn r tokens = (joins : ModuleExpression → ModuleExpression) (m : ModuleExpression) → module_read_all (module_reading joins (multiplying m r)) tokens ≡ in_factor joins m (read_all r tokens)

-- a token at which no factor ends, and one that ends no factor

at_unfinished : (r : Reader) → expression_read r ≡ None → (t : Token) → PassesOn r (t ∷ [])
unfolding module_read_all module_read behind_factor read_all
at_unfinished r none t joins m = ap (λ whole. behind_factor joins m r whole t) none

module _ (joins : ModuleExpression → ModuleExpression) (m : ModuleExpression) (r : Reader) where
  behind_factor-close : (whole : Option Expression) → behind_factor joins m r whole close_sign ≡ in_factor joins m (read r close_sign)
  unfolding behind_factor
  behind_factor-close (Some e) = refl
  behind_factor-close None = refl

  behind_factor-power : (whole : Option Expression) → behind_factor joins m r whole power_sign ≡ in_factor joins m (read r power_sign)
  unfolding behind_factor
  behind_factor-power (Some e) = refl
  behind_factor-power None = refl

at_close : (r : Reader) → PassesOn r (close_sign ∷ [])
unfolding module_read_all module_read read_all
at_close r joins m = behind_factor-close joins m r (expression_read r)

at_power : (r : Reader) → PassesOn r (power_sign ∷ [])
unfolding module_read_all module_read read_all
at_power r joins m = behind_factor-power joins m r (expression_read r)

-- where no factor ends

none_wanted : (stack : List Frame) (frame : Frame) (first : Bool) → expression_read (reading stack frame (wanted first)) ≡ None
unfolding expression_read
none_wanted [] frame first = refl
none_wanted (outer ∷ stack) frame first = refl

none_raising : (stack : List Frame) (frame : Frame) (e : Expression) → expression_read (reading stack frame (raising e)) ≡ None
unfolding expression_read
none_raising [] frame e = refl
none_raising (outer ∷ stack) frame e = refl

none_inverting : (stack : List Frame) (frame : Frame) (e : Expression) → expression_read (reading stack frame (inverting e)) ≡ None
unfolding expression_read
none_inverting [] frame e = refl
none_inverting (outer ∷ stack) frame e = refl

none_within : (outer : Frame) (stack : List Frame) (frame : Frame) (state : Reading) → expression_read (reading (outer ∷ stack) frame state) ≡ None
unfolding expression_read
none_within outer stack frame state = refl

-- tokens that are passed on, and then more
both_pass : (r : Reader) (front back : List Token) {stack : List Frame} {frame : Frame} {state : Reading} → read_all r front ≡ reading stack frame state
    → PassesOn r front → PassesOn (reading stack frame state) back → PassesOn r (front ++ back)
unfolding in_factor
both_pass r front back {stack} {frame} {state} is h k joins m =
    module_read_all-append (module_reading joins (multiplying m r)) front back
    ∙ ap (λ s. module_read_all s back) (h joins m ∙ ap (in_factor joins m) is)
    ∙ k joins m
    ∙ ap (λ s. in_factor joins m (read_all s back)) (sym is)
    ∙ ap (in_factor joins m) (sym (read_all-append r front back))

abbrev PassesAt : Rank → List Token → Type 0
PassesAt atom tokens = (stack : List Frame) (frame : Frame) (first : Bool) → PassesOn (reading stack frame (wanted first)) tokens
PassesAt factor tokens = (stack : List Frame) (frame : Frame) (first : Bool) → PassesOn (reading stack frame (wanted first)) tokens
PassesAt algebra.term tokens = (outer : Frame) (stack : List Frame) (join : Expression → Expression) (first : Bool) → PassesOn (reading (outer ∷ stack) (joining join) (wanted first)) tokens
PassesAt algebra.whole tokens = (outer : Frame) (stack : List Frame) → PassesOn (reading (outer ∷ stack) blank (wanted true)) tokens

passes_grouped : (tokens : List Token) (e : Expression) → ReadsWhole tokens e → PassesAt algebra.whole tokens → PassesAt atom ((open_sign ∷ tokens) ++ close_sign ∷ [])
unfolding read_all read at_wanted
passes_grouped tokens e h k stack frame first =
    both_pass (reading stack frame (wanted first)) (open_sign ∷ tokens) (close_sign ∷ []) (h.reads (frame ∷ stack))
    (both_pass (reading stack frame (wanted first)) (open_sign ∷ []) tokens refl (at_unfinished _ (none_wanted stack frame first) open_sign) (k frame stack))
    (at_close (reading (frame ∷ stack) h.frame (stands h.raisable h.last)))

passes_raised : (tokens : List Token) (e : Expression) (digits : List ℕ) → ReadsAtom tokens e → PassesAt atom tokens → PassesAt factor (tokens ++ power_sign ∷ number digits ∷ [])
unfolding read_all read at_standing
passes_raised tokens e digits h k stack frame first =
    both_pass (reading stack frame (wanted first)) tokens (power_sign ∷ number digits ∷ []) (h stack frame first) (k stack frame first)
    (both_pass (reading stack frame (stands true e)) (power_sign ∷ []) (number digits ∷ []) refl (at_power (reading stack frame (stands true e)))
    (at_unfinished _ (none_raising stack frame e) (number digits)))

passes_inverted : (tokens : List Token) (e : Expression) (digits : List ℕ) → ReadsAtom tokens e → PassesAt atom tokens
    → PassesAt factor (tokens ++ power_sign ∷ minus_sign ∷ number digits ∷ [])
unfolding read_all read at_standing at_raising
passes_inverted tokens e digits h k stack frame first =
    both_pass (reading stack frame (wanted first)) tokens (power_sign ∷ minus_sign ∷ number digits ∷ []) (h stack frame first) (k stack frame first)
    (both_pass (reading stack frame (stands true e)) (power_sign ∷ []) (minus_sign ∷ number digits ∷ []) refl (at_power (reading stack frame (stands true e)))
    (both_pass (reading stack frame (raising e)) (minus_sign ∷ []) (number digits ∷ []) refl (at_unfinished _ (none_raising stack frame e) minus_sign)
    (at_unfinished _ (none_inverting stack frame e) (number digits))))

passes_product : (front back : List Token) (d : Expression) → ReadsTerm front d → PassesAt algebra.term front → PassesAt factor back → PassesAt algebra.term (front ++ times_sign ∷ back)
unfolding read_all read at_standing
passes_product front back d h k l outer stack join first =
    let frame : Frame = record { joins = join; times = h.times } in
    both_pass (reading (outer ∷ stack) (joining join) (wanted first)) front (times_sign ∷ back) (h.reads (outer ∷ stack) join first) (k outer stack join first)
    (both_pass (reading (outer ∷ stack) frame (stands h.raisable h.last)) (times_sign ∷ []) back refl
    (at_unfinished _ (none_within outer stack frame (stands h.raisable h.last)) times_sign)
    (l (outer ∷ stack) (record { joins = join; times = λ f. algebra.product (h.times h.last) f }) false))

passes_sum : (front back : List Token) (d : Expression) → ReadsWhole front d → PassesAt algebra.whole front → PassesAt algebra.term back → PassesAt algebra.whole (front ++ plus_sign ∷ back)
unfolding read_all read at_standing
passes_sum front back d h k l outer stack =
    both_pass (reading (outer ∷ stack) blank (wanted true)) front (plus_sign ∷ back) (h.reads (outer ∷ stack)) (k outer stack)
    (both_pass (reading (outer ∷ stack) h.frame (stands h.raisable h.last)) (plus_sign ∷ []) back refl
    (at_unfinished _ (none_within outer stack h.frame (stands h.raisable h.last)) plus_sign)
    (l outer stack (λ f. algebra.sum (closed h.frame h.last) f) false))

passes_difference : (front back : List Token) (d : Expression) → ReadsWhole front d → PassesAt algebra.whole front → PassesAt algebra.term back
    → PassesAt algebra.whole (front ++ minus_sign ∷ back)
unfolding read_all read at_standing
passes_difference front back d h k l outer stack =
    both_pass (reading (outer ∷ stack) blank (wanted true)) front (minus_sign ∷ back) (h.reads (outer ∷ stack)) (k outer stack)
    (both_pass (reading (outer ∷ stack) h.frame (stands h.raisable h.last)) (minus_sign ∷ []) back refl
    (at_unfinished _ (none_within outer stack h.frame (stands h.raisable h.last)) minus_sign)
    (l outer stack (λ f. algebra.difference (closed h.frame h.last) f) false))

passes_plus : (tokens : List Token) → PassesAt algebra.term tokens → PassesAt algebra.whole (plus_sign ∷ tokens)
unfolding read_all read at_wanted
passes_plus tokens k outer stack =
    both_pass (reading (outer ∷ stack) blank (wanted true)) (plus_sign ∷ []) tokens refl (at_unfinished _ (none_within outer stack blank (wanted true)) plus_sign) (k outer stack (λ f. f) false)

passes_minus : (tokens : List Token) → PassesAt algebra.term tokens → PassesAt algebra.whole (minus_sign ∷ tokens)
unfolding read_all read at_wanted
passes_minus tokens k outer stack =
    both_pass (reading (outer ∷ stack) blank (wanted true)) (minus_sign ∷ []) tokens refl (at_unfinished _ (none_within outer stack blank (wanted true)) minus_sign)
    (k outer stack algebra.opposite false)

passes : {rank : Rank} {tokens : List Token} {e : Expression} → Spell rank tokens e → PassesAt rank tokens
passes (a_number digits) = λ stack frame first. at_unfinished _ (none_wanted stack frame first) (number digits)
passes (a_name x) = λ stack frame first. at_unfinished _ (none_wanted stack frame first) (name x)
passes (in_parentheses {tokens} {e} h are) = subst (λ ts. PassesAt atom ts) (sym are) (passes_grouped tokens e (reads h) (passes h))
passes (a_factor h) = passes h
passes (raised {tokens} {e} digits h are) = subst (λ ts. PassesAt factor ts) (sym are) (passes_raised tokens e digits (reads h) (passes h))
passes (raised_inverse {tokens} {e} digits h are) = subst (λ ts. PassesAt factor ts) (sym are) (passes_inverted tokens e digits (reads h) (passes h))
passes (algebra.a_term h) = λ outer stack join first. passes h (outer ∷ stack) (joining join) first
passes (algebra.multiplied {front} {back} {d} h k are) = subst (λ ts. PassesAt algebra.term ts) (sym are) (passes_product front back d (reads h) (passes h) (passes k))
passes (algebra.first_term h) = λ outer stack. passes h outer stack (λ f. f) true
passes (algebra.with_plus {tokens} h) = passes_plus tokens (passes h)
passes (algebra.with_minus {tokens} h) = passes_minus tokens (passes h)
passes (algebra.added {front} {back} {d} h k are) = subst (λ ts. PassesAt algebra.whole ts) (sym are) (passes_sum front back d (reads h) (passes h) (passes k))
passes (algebra.subtracted {front} {back} {d} h k are) = subst (λ ts. PassesAt algebra.whole ts) (sym are) (passes_difference front back d (reads h) (passes h) (passes k))

-- a factor, whole
factor_reads : {tokens : List Token} {e : Expression} → Spell factor tokens e → (joins : ModuleExpression → ModuleExpression) (m : ModuleExpression) (h : ReadsFactor tokens e)
    → module_read_all (module_reading joins (multiplying m factor_start)) tokens ≡ module_reading joins (multiplying m (reading [] blank (stands h.raisable e)))
unfolding in_factor
factor_reads k joins m h = passes k [] blank false joins m ∙ ap (in_factor joins m) (h.reads [] blank false)

-- what tokens of a rank leave of a reader, by what may follow

abbrev before : (ModuleExpression → ModuleExpression) → Bool → ModuleReader
before joins first = module_reading joins (term_wanted first)

record TermReads (tokens : List Token) (m : ModuleExpression) : Type 0 where
  adds : (joins : ModuleExpression → ModuleExpression) (first : Bool) → module_read (module_read_all (before joins first) tokens) plus_sign ≡ before (λ n. modules.sum (joins m) n) false
  subtracts : (joins : ModuleExpression → ModuleExpression) (first : Bool) → module_read (module_read_all (before joins first) tokens) minus_sign ≡ before (λ n. modules.difference (joins m) n) false
  ends : (joins : ModuleExpression → ModuleExpression) (first : Bool) → module_expression_read (module_read_all (before joins first) tokens) ≡ Some (joins m)

record GeneratedReads (tokens : List Token) (m : ModuleExpression) : Type 0 where
  term : TermReads tokens m
  multiplies : (joins : ModuleExpression → ModuleExpression) (first : Bool)
      → module_read (module_read_all (before joins first) tokens) times_sign ≡ module_reading joins (multiplying m factor_start)

record WholeReads (tokens : List Token) (m : ModuleExpression) : Type 0 where
  adds : module_read (module_read_all module_start tokens) plus_sign ≡ before (λ n. modules.sum m n) false
  subtracts : module_read (module_read_all module_start tokens) minus_sign ≡ before (λ n. modules.difference m n) false
  ends : module_expression_read (module_read_all module_start tokens) ≡ Some m

abbrev ModuleReads : ModuleRank → List Token → ModuleExpression → Type 0
ModuleReads generated tokens m = GeneratedReads tokens m
ModuleReads modules.term tokens m = TermReads tokens m
ModuleReads modules.whole tokens m = WholeReads tokens m

generator_reads : (x : List ℕ) → GeneratedReads (name x ∷ []) (generator None x)
unfolding module_read_all module_read behind_term module_expression_read
generator_reads x = record { term = record { adds = λ joins first. refl; subtracts = λ joins first. refl; ends = λ joins first. refl }; multiplies = λ joins first. refl }

scaled_reads : (digits x : List ℕ) → GeneratedReads (number digits ∷ times_sign ∷ name x ∷ []) (generator (Some (number_value digits)) x)
unfolding module_read_all module_read behind_term behind_number module_expression_read
scaled_reads digits x = record { term = record { adds = λ joins first. refl; subtracts = λ joins first. refl; ends = λ joins first. refl }; multiplies = λ joins first. refl }

zero_reads : (digits : List ℕ) → number_value digits ≡ 0 → TermReads (number digits ∷ []) nothing
unfolding module_read_all module_read behind_term behind_number module_expression_read
zero_reads digits zero = record {
  adds = λ joins first. ap (λ n. cond (nat_eq n 0) (before (λ n. modules.sum (joins nothing) n) false) module_stuck) zero;
  subtracts = λ joins first. ap (λ n. cond (nat_eq n 0) (before (λ n. modules.difference (joins nothing) n) false) module_stuck) zero;
  ends = λ joins first. ap (λ n. cond (nat_eq n 0) (Some (joins nothing)) None) zero;
}

module _ {front back : List Token} {m : ModuleExpression} {e : Expression} (h : GeneratedReads front m) (k : Spell factor back e) where
  product_read : (r : ReadsFactor back e) (joins : ModuleExpression → ModuleExpression) (first : Bool)
      → module_read_all (before joins first) (front ++ times_sign ∷ back) ≡ module_reading joins (multiplying m (reading [] blank (stands r.raisable e)))
  unfolding module_read_all
  product_read r joins first =
      module_read_all-append (before joins first) front (times_sign ∷ back) ∙ ap (λ s. module_read_all s back) (h.multiplies joins first) ∙ factor_reads k joins m r

  product_reads : GeneratedReads (front ++ times_sign ∷ back) (modules.product m e)
  unfolding module_read behind_factor behind_term module_expression_read expression_read
  product_reads = let r : ReadsFactor back e = reads k in record {
    term = record {
      adds = λ joins first. ap (λ s. module_read s plus_sign) (product_read r joins first);
      subtracts = λ joins first. ap (λ s. module_read s minus_sign) (product_read r joins first);
      ends = λ joins first. ap module_expression_read (product_read r joins first);
    };
    multiplies = λ joins first. ap (λ s. module_read s times_sign) (product_read r joins first);
  }

first_reads : {tokens : List Token} {m : ModuleExpression} → TermReads tokens m → WholeReads tokens m
first_reads h = record { adds = h.adds (λ m. m) true; subtracts = h.subtracts (λ m. m) true; ends = h.ends (λ m. m) true }

plus_reads : {tokens : List Token} {m : ModuleExpression} → TermReads tokens m → WholeReads (plus_sign ∷ tokens) m
unfolding module_read_all module_read before_term
plus_reads h = record { adds = h.adds (λ m. m) false; subtracts = h.subtracts (λ m. m) false; ends = h.ends (λ m. m) false }

minus_reads : {tokens : List Token} {m : ModuleExpression} → TermReads tokens m → WholeReads (minus_sign ∷ tokens) (modules.opposite m)
unfolding module_read_all module_read before_term
minus_reads h = record { adds = h.adds modules.opposite false; subtracts = h.subtracts modules.opposite false; ends = h.ends modules.opposite false }

-- a term that is joined to what was read before
module _ (front : List Token) (t : Token) {back : List Token} {m : ModuleExpression} (joins : ModuleExpression → ModuleExpression)
    (h : module_read (module_read_all module_start front) t ≡ before joins false) (k : TermReads back m) where
  joined_read : module_read_all module_start (front ++ t ∷ back) ≡ module_read_all (before joins false) back
  unfolding module_read_all
  joined_read = module_read_all-append module_start front (t ∷ back) ∙ ap (λ s. module_read_all s back) h

  joined_reads : WholeReads (front ++ t ∷ back) (joins m)
  joined_reads = record {
    adds = ap (λ s. module_read s plus_sign) joined_read ∙ k.adds joins false;
    subtracts = ap (λ s. module_read s minus_sign) joined_read ∙ k.subtracts joins false;
    ends = ap module_expression_read joined_read ∙ k.ends joins false;
  }

module_reads : {rank : ModuleRank} {tokens : List Token} {m : ModuleExpression} → ModuleSpell rank tokens m → ModuleReads rank tokens m
module_reads (a_generator x) = generator_reads x
module_reads (scaled digits x) = scaled_reads digits x
module_reads (modules.multiplied {d} {e} h k are) = subst (λ ts. GeneratedReads ts (modules.product d e)) (sym are) (product_reads (module_reads h) k)
module_reads (a_zero digits zero) = zero_reads digits zero
module_reads (modules.a_term {tokens} {e} h) = let k : GeneratedReads tokens e = module_reads h in k.term
module_reads (modules.first_term h) = first_reads (module_reads h)
module_reads (modules.with_plus h) = plus_reads (module_reads h)
module_reads (modules.with_minus h) = minus_reads (module_reads h)
module_reads (modules.added {front} {back} {d} {e} h k are) =
    let l : WholeReads front d = module_reads h in
    subst (λ ts. WholeReads ts (modules.sum d e)) (sym are) (joined_reads front plus_sign (λ n. modules.sum d n) l.adds (module_reads k))
module_reads (modules.subtracted {front} {back} {d} {e} h k are) =
    let l : WholeReads front d = module_reads h in
    subst (λ ts. WholeReads ts (modules.difference d e)) (sym are) (joined_reads front minus_sign (λ n. modules.difference d n) l.subtracts (module_reads k))

-- tokens of an expression of the module are parsed to it
pub module_parsed-spelled : {tokens : List Token} {m : ModuleExpression} → ModuleSpell modules.whole tokens m → module_parsed tokens ≡ Some m
unfolding module_parsed
module_parsed-spelled {tokens} {m} h = let k : WholeReads tokens m = module_reads h in k.ends
