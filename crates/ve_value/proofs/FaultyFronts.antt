-- A fault of the front of an expression is one of the whole.
use Rattle.std.proofs.Common.{◌≡◌, Bool, true, false, List, [], ◌∷◌, Some, Err, subst, inl, inr, ◌⊎◌}
use Rattle.ve_theory.specs.Presentations.{Presentation}
use Rattle.ve_formats.specs.Causes.{Cause}
use Rattle.ve_formats.specs.Tokens.{Token, name, number, symbol}
use Rattle.ve_formats.specs.Expressions as expressions
use Rattle.ve_formats.specs.Expressions.{Expression}
use Rattle.ve_formats.specs.Values.{HasValue, of_group, of_product_left, of_sum_left, of_difference_left, of_faulty_base, of_faulty_inverse_base}
use Rattle.ve_formats.specs.Reading as grammar
use Rattle.ve_formats.specs.Reading.{Frame, Reading, wanted, stands, raising, inverting, Reader, stuck, reading, joining, closed, close, first_sign, signs, at_wanted, at_standing, at_raising, read, read_all, expression_read}
use Rattle.ve_value.specs.Evaluation.{PassOn, IsFaultyFrame, in_sum, in_product, AreFaulty, IsFaultyWith, IsFaultyFront, IsFaulty}

faulty_frame : (P : Presentation) (cause : Cause) (frame : Frame) → IsFaultyFrame P cause frame → (e : Expression) → HasValue P (closed frame e) (Err cause)
faulty_frame P cause frame (in_sum h) e = h (frame.times e)
faulty_frame P cause frame (in_product h passes) e = passes (frame.times e) (h e)

-- the sum with its last factor has the fault, or a frame outside of it has
pub faulty_sum : (P : Presentation) (cause : Cause) (stack : List Frame) (frame : Frame) (e : Expression) → IsFaultyWith P cause (frame ∷ stack) e
    → (HasValue P (closed frame e) (Err cause) × PassOn P stack) ⊎ AreFaulty P cause stack
faulty_sum P cause stack frame e (inl (inl (h, pass))) = inl (faulty_frame P cause frame h e, pass)
faulty_sum P cause stack frame e (inl (inr h)) = inr h
faulty_sum P cause stack frame e (inr (h, (passes, pass))) = inl (passes.joins _ cause (passes.times e cause h), pass)

-- a fault of a sum is one of the sum that goes on
pub faulty_so_far : (P : Presentation) (cause : Cause) (stack : List Frame) (joins : Expression → Expression) → ((e : Expression) → HasValue P (joins e) (Err cause)) → PassOn P stack
    → AreFaulty P cause (joining joins ∷ stack)
faulty_so_far P cause stack joins h pass = inl (in_sum h, pass)

pub faulty_product : (P : Presentation) (cause : Cause) (stack : List Frame) (frame : Frame) (e : Expression) → IsFaultyWith P cause (frame ∷ stack) e
    → AreFaulty P cause ((record { joins = frame.joins; times = λ f. expressions.product (frame.times e) f }) ∷ stack)
faulty_product P cause stack frame e (inl (inl (in_sum h, pass))) = inl (in_sum h, pass)
faulty_product P cause stack frame e (inl (inl (in_product h passes, pass))) = inl (in_product (λ f. of_product_left (h e)) passes, pass)
faulty_product P cause stack frame e (inl (inr h)) = inr h
faulty_product P cause stack frame e (inr (h, (passes, pass))) = inl (in_product (λ f. of_product_left (passes.times e cause h)) (λ f k. passes.joins f cause k), pass)

at_wanted_faulty : (P : Presentation) (cause : Cause) (sign : grammar.Sign) (stack : List Frame) (frame : Frame) (first : Bool) → IsFaultyFront P cause stack frame (wanted first)
    → IsFaulty P cause (at_wanted sign stack frame first)
unfolding at_wanted
at_wanted_faulty P cause grammar.open_ stack frame true h = inr h
at_wanted_faulty P cause grammar.open_ stack frame false h = h
at_wanted_faulty P cause grammar.plus stack frame true h = inr h
at_wanted_faulty P cause grammar.plus stack frame false h = tt
at_wanted_faulty P cause grammar.minus stack frame true h = inr h
at_wanted_faulty P cause grammar.minus stack frame false h = tt
at_wanted_faulty P cause grammar.times stack frame first h = tt
at_wanted_faulty P cause grammar.raise stack frame first h = tt
at_wanted_faulty P cause grammar.close_ stack frame first h = tt
at_wanted_faulty P cause grammar.other stack frame first h = tt

wanted_faulty : (P : Presentation) (cause : Cause) (stack : List Frame) (frame : Frame) (first : Bool) → IsFaultyFront P cause stack frame (wanted first) → AreFaulty P cause (frame ∷ stack)
wanted_faulty P cause stack frame true h = inr h
wanted_faulty P cause stack frame false h = h

close_faulty : (P : Presentation) (cause : Cause) (stack : List Frame) (e : Expression) → (HasValue P e (Err cause) × PassOn P stack) ⊎ AreFaulty P cause stack → IsFaulty P cause (close stack e)
unfolding close
close_faulty P cause [] e h = tt
close_faulty P cause (frame ∷ stack) e (inl (h, pass)) = inr (of_group h, pass)
close_faulty P cause (frame ∷ stack) e (inr h) = inl h

sum_faulty : (P : Presentation) (cause : Cause) (stack : List Frame) (e : Expression) → (HasValue P e (Err cause) × PassOn P stack) ⊎ AreFaulty P cause stack
    → AreFaulty P cause (joining (λ f. expressions.sum e f) ∷ stack)
sum_faulty P cause stack e (inl (h, pass)) = inl (in_sum (λ f. of_sum_left h), pass)
sum_faulty P cause stack e (inr h) = inr h

difference_faulty : (P : Presentation) (cause : Cause) (stack : List Frame) (e : Expression) → (HasValue P e (Err cause) × PassOn P stack) ⊎ AreFaulty P cause stack
    → AreFaulty P cause (joining (λ f. expressions.difference e f) ∷ stack)
difference_faulty P cause stack e (inl (h, pass)) = inl (in_sum (λ f. of_difference_left h), pass)
difference_faulty P cause stack e (inr h) = inr h

pub at_standing_faulty : (P : Presentation) (cause : Cause) (sign : grammar.Sign) (stack : List Frame) (frame : Frame) (e : Expression) (raisable : Bool) → IsFaultyWith P cause (frame ∷ stack) e
    → IsFaulty P cause (at_standing sign stack frame e raisable)
unfolding at_standing
at_standing_faulty P cause grammar.raise stack frame e true h = h
at_standing_faulty P cause grammar.raise stack frame e false h = tt
at_standing_faulty P cause grammar.times stack frame e raisable h = faulty_product P cause stack frame e h
at_standing_faulty P cause grammar.plus stack frame e raisable h = sum_faulty P cause stack _ (faulty_sum P cause stack frame e h)
at_standing_faulty P cause grammar.minus stack frame e raisable h = difference_faulty P cause stack _ (faulty_sum P cause stack frame e h)
at_standing_faulty P cause grammar.close_ stack frame e raisable h = close_faulty P cause stack _ (faulty_sum P cause stack frame e h)
at_standing_faulty P cause grammar.open_ stack frame e raisable h = tt
at_standing_faulty P cause grammar.other stack frame e raisable h = tt

at_raising_faulty : (P : Presentation) (cause : Cause) (sign : grammar.Sign) (stack : List Frame) (frame : Frame) (e : Expression) → IsFaultyWith P cause (frame ∷ stack) e
    → IsFaulty P cause (at_raising sign stack frame e)
unfolding at_raising
at_raising_faulty P cause grammar.minus stack frame e h = h
at_raising_faulty P cause grammar.plus stack frame e h = tt
at_raising_faulty P cause grammar.times stack frame e h = tt
at_raising_faulty P cause grammar.raise stack frame e h = tt
at_raising_faulty P cause grammar.open_ stack frame e h = tt
at_raising_faulty P cause grammar.close_ stack frame e h = tt
at_raising_faulty P cause grammar.other stack frame e h = tt

-- a fault of what stands is one of it within another expression
within : (P : Presentation) (cause : Cause) (frames : List Frame) (d e : Expression) → (HasValue P d (Err cause) → HasValue P e (Err cause)) → IsFaultyWith P cause frames d → IsFaultyWith P cause frames e
within P cause frames d e f (inl h) = inl h
within P cause frames d e f (inr (h, pass)) = inr (f h, pass)

front_faulty : (P : Presentation) (cause : Cause) (stack : List Frame) (frame : Frame) (state : Reading) (t : Token) → IsFaultyFront P cause stack frame state
    → IsFaulty P cause (read (reading stack frame state) t)
unfolding read
front_faulty P cause stack frame (wanted first) (name x) h = inl (wanted_faulty P cause stack frame first h)
front_faulty P cause stack frame (wanted first) (number digits) h = inl (wanted_faulty P cause stack frame first h)
front_faulty P cause stack frame (wanted first) (symbol b) h = at_wanted_faulty P cause (first_sign b signs) stack frame first h
front_faulty P cause stack frame (stands raisable e) (name x) h = tt
front_faulty P cause stack frame (stands raisable e) (number digits) h = tt
front_faulty P cause stack frame (stands raisable e) (symbol b) h = at_standing_faulty P cause (first_sign b signs) stack frame e raisable h
front_faulty P cause stack frame (raising e) (name x) h = tt
front_faulty P cause stack frame (raising e) (number digits) h = within P cause (frame ∷ stack) e _ of_faulty_base h
front_faulty P cause stack frame (raising e) (symbol b) h = at_raising_faulty P cause (first_sign b signs) stack frame e h
front_faulty P cause stack frame (inverting e) (name x) h = tt
front_faulty P cause stack frame (inverting e) (number digits) h = within P cause (frame ∷ stack) e _ of_faulty_inverse_base h
front_faulty P cause stack frame (inverting e) (symbol b) h = tt

pub stays_faulty : (P : Presentation) (cause : Cause) (r : Reader) (t : Token) → IsFaulty P cause r → IsFaulty P cause (read r t)
unfolding read
stays_faulty P cause stuck t h = tt
stays_faulty P cause (reading stack frame state) t h = front_faulty P cause stack frame state t h

pub faulty_at_end : (P : Presentation) (cause : Cause) (r : Reader) (e : Expression) → IsFaulty P cause r → expression_read r ≡ Some e → HasValue P e (Err cause)
unfolding expression_read
faulty_at_end P cause stuck e h is = absurd (cc)
faulty_at_end P cause (reading [] frame (wanted first)) e h is = absurd (cc)
faulty_at_end P cause (reading [] frame (stands raisable d)) e h is = by_sum (faulty_sum P cause [] frame d h)
  where
    by_sum : (HasValue P (closed frame d) (Err cause) × PassOn P []) ⊎ AreFaulty P cause [] → HasValue P e (Err cause)
    by_sum (inl (k, pass)) = let same : closed frame d ≡ e = (cc) in subst (λ (e : Expression). HasValue P e (Err cause)) same k
    by_sum (inr k) = absurd k
faulty_at_end P cause (reading [] frame (raising d)) e h is = absurd (cc)
faulty_at_end P cause (reading [] frame (inverting d)) e h is = absurd (cc)
faulty_at_end P cause (reading (outer ∷ stack) frame state) e h is = absurd (cc)

pub faulty_to_the_end : (P : Presentation) (cause : Cause) (r : Reader) (rest : List Token) (e : Expression) → IsFaulty P cause r → expression_read (read_all r rest) ≡ Some e → HasValue P e (Err cause)
unfolding read_all
faulty_to_the_end P cause r [] e h is = faulty_at_end P cause r e h is
faulty_to_the_end P cause r (t ∷ rest) e h is = faulty_to_the_end P cause (read r t) rest e (stays_faulty P cause r t h) is
