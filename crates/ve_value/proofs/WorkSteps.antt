-- What a token does to the work.
use Rattle.std.proofs.Common.{◌≡◌, ◌≢◌, ℕ, Bool, true, false, List, [], ◌∷◌, ◌++◌, Some, None, Result, Ok, Err, refl, sym, ap, ◌∙◌, subst, inl, inr, ◌⊎◌, is_some, MatchResult, Vec, Global}
use Rattle.ve_theory.specs.Presentations.{Presentation}
use Rattle.ve_formats.specs.Causes.{Cause}
use Rattle.ve_formats.specs.Tokens.{Token, name, number, symbol, number_value}
use Rattle.ve_formats.specs.Expressions as expressions
use Rattle.ve_formats.specs.Expressions.{Expression}
use Rattle.ve_formats.specs.Values.{HasValue, of_group, of_product_left, of_sum_left, of_difference_left}
use Rattle.ve_formats.specs.Reading as grammar
use Rattle.ve_formats.specs.Reading.{Frame, wanted, stands, raising, inverting, Reader, stuck, reading, blank, joining, closed, close, first_sign, signs, at_wanted, at_standing, at_raising, read, expression_read}
use Rattle.ve_value.specs.declared.fault.ValueFault.{ValueFault}
use Rattle.ve_value.specs.declared.factor.Factor.{Factor}
use Rattle.ve_value.specs.declared.factor.Pending.{Pending}
use Rattle.ve_value.specs.declared.value.Reading.{Reading}
use Rattle.ve_value.specs.declared.value.Reading.TheVariants.{Wanted, Standing, Raising, Inverting}
use Rattle.ve_value.specs.declared.value.Work.{Work}
use Rattle.ve_value.specs.declared.sign.Sign.{Sign}
use Rattle.ve_value.specs.declared.sign.Sign.TheVariants.{Times, Power, Open, Close, Other}
use Rattle.ve_value.specs.Signs.{read_as}
use Rattle.ve_value.specs.Faults.{Tells}
use Rattle.ve_value.specs.Evaluation.{IsFactorOf, IsPendingOf, ArePendingOf, none, one, IsReadingOf, IsWorkOf, Works, ReadsOn, CanRead, PassesOn, PassOn, IsFaulty, in_sum, in_product, IsWorth}
use Rattle.ve_value.specs.Given.{Gives}
use Rattle.ve_theory.specs.Elements.{AlgebraElement}
use Rattle.ve_value.proofs.Joining.{tells_more, times_passes, joins_passes}

abbrev pub work : Vec Pending Global → Pending → Reading → Work
work outer inner state = record { outer = outer; inner = inner; reading = state }

-- a reader in a state, with its work
pub record IsAt (P : Presentation) (w : Work) (r : Reader) (state : grammar.Reading) : Type 0 where
  pub stack : List Frame
  pub frame : Frame
  pub is : r ≡ reading stack frame state
  pub outer : ArePendingOf P stack w.outer.items
  pub inner : IsPendingOf P frame w.inner

pub record IsAtFactor (P : Presentation) (w : Work) (r : Reader) (factor : Factor) (state : Expression → grammar.Reading) : Type 0 where
  pub expression : Expression
  pub worth : IsFactorOf P expression factor
  pub at : IsAt P w r (state expression)

state_of : (P : Presentation) (state : grammar.Reading) (standing now : Reading) → now ≡ standing → IsReadingOf P state now → IsReadingOf P state standing
state_of P state standing now is h = subst (λ (now : Reading). IsReadingOf P state now) is h

pub when_wanted : (P : Presentation) (w : Work) (r : Reader) → w.reading ≡ Wanted → IsWorkOf P r w → (first : Bool) × IsAt P w r (wanted first)
when_wanted P w stuck is h = absurd h
when_wanted P w (reading stack frame (wanted first)) is h = (first, record { stack = stack; frame = frame; is = refl; outer = h.outer; inner = h.inner })
when_wanted P w (reading stack frame (stands raisable e)) is h = absurd (state_of P (stands raisable e) _ _ is h.reading)
when_wanted P w (reading stack frame (raising e)) is h = absurd (state_of P (raising e) _ _ is h.reading)
when_wanted P w (reading stack frame (inverting e)) is h = absurd (state_of P (inverting e) _ _ is h.reading)

pub when_standing : (P : Presentation) (w : Work) (r : Reader) (factor : Factor) → w.reading ≡ Standing factor → IsWorkOf P r w → (raisable : Bool) × IsAtFactor P w r factor (stands raisable)
when_standing P w stuck factor is h = absurd h
when_standing P w (reading stack frame (wanted first)) factor is h = absurd (state_of P (wanted first) _ _ is h.reading)
when_standing P w (reading stack frame (stands raisable e)) factor is h =
    (raisable, record { expression = e; worth = state_of P (stands raisable e) _ _ is h.reading; at = record { stack = stack; frame = frame; is = refl; outer = h.outer; inner = h.inner } })
when_standing P w (reading stack frame (raising e)) factor is h = absurd (state_of P (raising e) _ _ is h.reading)
when_standing P w (reading stack frame (inverting e)) factor is h = absurd (state_of P (inverting e) _ _ is h.reading)

pub when_raising : (P : Presentation) (w : Work) (r : Reader) (factor : Factor) → w.reading ≡ Raising factor → IsWorkOf P r w → IsAtFactor P w r factor raising
when_raising P w stuck factor is h = absurd h
when_raising P w (reading stack frame (wanted first)) factor is h = absurd (state_of P (wanted first) _ _ is h.reading)
when_raising P w (reading stack frame (stands raisable e)) factor is h = absurd (state_of P (stands raisable e) _ _ is h.reading)
when_raising P w (reading stack frame (raising e)) factor is h =
    record { expression = e; worth = state_of P (raising e) _ _ is h.reading; at = record { stack = stack; frame = frame; is = refl; outer = h.outer; inner = h.inner } }
when_raising P w (reading stack frame (inverting e)) factor is h = absurd (state_of P (inverting e) _ _ is h.reading)

pub when_inverting : (P : Presentation) (w : Work) (r : Reader) (factor : Factor) → w.reading ≡ Inverting factor → IsWorkOf P r w → IsAtFactor P w r factor inverting
when_inverting P w stuck factor is h = absurd h
when_inverting P w (reading stack frame (wanted first)) factor is h = absurd (state_of P (wanted first) _ _ is h.reading)
when_inverting P w (reading stack frame (stands raisable e)) factor is h = absurd (state_of P (stands raisable e) _ _ is h.reading)
when_inverting P w (reading stack frame (raising e)) factor is h = absurd (state_of P (raising e) _ _ is h.reading)
when_inverting P w (reading stack frame (inverting e)) factor is h =
    record { expression = e; worth = state_of P (inverting e) _ _ is h.reading; at = record { stack = stack; frame = frame; is = refl; outer = h.outer; inner = h.inner } }

too_short : {A : Type 0} (xs : List A) (x : A) → [] ≡ xs ++ x ∷ [] → ⊥
too_short [] x is = (cc)
too_short (y ∷ xs) x is = (cc)

-- lists that end alike
last_alike : {A : Type 0} (xs ys : List A) (x y : A) → xs ++ x ∷ [] ≡ ys ++ y ∷ [] → (xs ≡ ys) × (x ≡ y)
last_alike [] [] x y is = (refl, (cc))
last_alike [] (b ∷ ys) x y is = absurd (too_short ys y (cc))
last_alike (a ∷ xs) [] x y is = absurd (too_short xs x (cc))
last_alike (a ∷ xs) (b ∷ ys) x y is = let rest = last_alike xs ys x y (cc) in let first : a ≡ b = (cc) in (ap (λ v. a ∷ v) rest.0 ∙ ap (λ v. v ∷ ys) first, rest.1)

-- the work that a function made
abbrev pub Made : Work → Work → Reading → Type 0
Made next w state = next ≡ work w.outer w.inner state

-- frames pass faults on

pub pending_passes : (P : Presentation) (frame : Frame) (pending : Pending) → IsPendingOf P frame pending → PassesOn P frame
pending_passes P frame pending h = record {
  times = λ e cause k. times_passes P _ _ h.product e cause k;
  joins = λ e cause k. joins_passes P _ _ _ h.sum e cause k;
}

pub stack_passes : (P : Presentation) (stack : List Frame) (outer : List Pending) → ArePendingOf P stack outer → PassOn P stack
stack_passes P _ outer none = tt
stack_passes P (frame ∷ stack) all (one {outer = outer} {inner = inner} h k is) = (pending_passes P frame inner k, stack_passes P stack outer h)

pub blank_pending : (P : Presentation) (pending : Pending) → pending ≡ record { sum = None; is_negative = false; product = None } → IsPendingOf P blank pending
blank_pending P pending is = rw is (record { sum = λ f. refl; product = λ f. refl })

-- where a factor is wanted

-- a factor that comes to stand, or the fault in its place
pub comes_to_stand : (P : Presentation) (w : Work) (t : Token) (e : Expression) → w.reading ≡ Wanted
    → ((stack : List Frame) (frame : Frame) (first : Bool) → read (reading stack frame (wanted first)) t ≡ reading stack frame (stands true e))
    → (factor : Factor) (next : Work) → IsFactorOf P e factor → Made next w (Standing factor) → ReadsOn P w t (Ok next)
comes_to_stand P w t e wants steps factor next worth made r h goes_on =
    let at = when_wanted P w r wants h in
    rw (at.1.is, steps at.1.stack at.1.frame at.0, made) (record { outer = at.1.outer; inner = at.1.inner; reading = worth })

pub fails_to_stand : (P : Presentation) (w : Work) (t : Token) (e : Expression) → w.reading ≡ Wanted
    → ((stack : List Frame) (frame : Frame) (first : Bool) → read (reading stack frame (wanted first)) t ≡ reading stack frame (stands true e))
    → (why : ValueFault) → Tells (λ cause. HasValue P e (Err cause)) why → ReadsOn P w t (Err why)
fails_to_stand P w t e wants steps why tells r h goes_on =
    let at = when_wanted P w r wants h in
    rw (at.1.is, steps at.1.stack at.1.frame at.0)
    (tells_more _ _ (λ cause k. inr (k, (pending_passes P _ _ at.1.inner, stack_passes P _ _ at.1.outer))) why tells)

pub name_stands : (bytes x : List ℕ) → x ≡ bytes → (stack : List Frame) (frame : Frame) (first : Bool)
    → read (reading stack frame (wanted first)) (name bytes) ≡ reading stack frame (stands true (expressions.letter x))
unfolding read
name_stands bytes x is stack frame first = rw is refl

pub number_stands : (digits : List ℕ) (n : ℕ) → n ≡ number_value digits → (stack : List Frame) (frame : Frame) (first : Bool)
    → read (reading stack frame (wanted first)) (number digits) ≡ reading stack frame (stands true (expressions.constant n))
unfolding read
number_stands digits n is stack frame first = rw is refl

-- a sign where a factor is wanted
pub wanted_sign : (P : Presentation) (w : Work) (b : ℕ) (sign : grammar.Sign) (result : Result Work ValueFault) → w.reading ≡ Wanted → first_sign b signs ≡ sign
    → ((stack : List Frame) (frame : Frame) (first : Bool) → ArePendingOf P stack w.outer.items → IsPendingOf P frame w.inner → at_wanted sign stack frame first ≢ stuck
    → Works P (at_wanted sign stack frame first) result)
    → ReadsOn P w (symbol b) result
unfolding read
wanted_sign P w b sign result wants is step r h goes_on =
    let at = when_wanted P w r wants h in
    let reads : read r (symbol b) ≡ at_wanted sign at.1.stack at.1.frame at.0 =
    ap (λ (r : Reader). read r (symbol b)) at.1.is ∙ ap (λ (sign : grammar.Sign). at_wanted sign at.1.stack at.1.frame at.0) is in
    subst (λ (r : Reader). Works P r result) (sym reads) (step at.1.stack at.1.frame at.0 at.1.outer at.1.inner (λ e. goes_on (reads ∙ e)))

pub opens : (P : Presentation) (w next : Work) (outer : Vec Pending Global) (pending : Pending) → next ≡ work outer pending Wanted → outer.items ≡ w.outer.items ++ w.inner ∷ []
    → pending ≡ record { sum = None; is_negative = false; product = None }
    → (stack : List Frame) (frame : Frame) (first : Bool) → ArePendingOf P stack w.outer.items → IsPendingOf P frame w.inner → at_wanted grammar.open_ stack frame first ≢ stuck
    → Works P (at_wanted grammar.open_ stack frame first) (Ok next)
unfolding at_wanted
opens P w next outer pending made pushed fresh stack frame first h k goes_on = rw made (record { outer = one h k pushed; inner = blank_pending P _ fresh; reading = tt })

pub first_plus : (P : Presentation) (w next : Work) (pending : Pending) → next ≡ work w.outer pending Wanted
    → pending ≡ record { sum = None; is_negative = false; product = None }
    → (stack : List Frame) (frame : Frame) (first : Bool) → ArePendingOf P stack w.outer.items → IsPendingOf P frame w.inner → at_wanted grammar.plus stack frame first ≢ stuck
    → Works P (at_wanted grammar.plus stack frame first) (Ok next)
unfolding at_wanted
first_plus P w next pending made fresh stack frame true h k goes_on = rw made (record { outer = h; inner = blank_pending P _ fresh; reading = tt })
first_plus P w next pending made fresh stack frame false h k goes_on = absurd (goes_on refl)

pub first_minus : (P : Presentation) (w next : Work) (pending : Pending) → next ≡ work w.outer pending Wanted
    → pending ≡ record { sum = None; is_negative = true; product = None }
    → (stack : List Frame) (frame : Frame) (first : Bool) → ArePendingOf P stack w.outer.items → IsPendingOf P frame w.inner → at_wanted grammar.minus stack frame first ≢ stuck
    → Works P (at_wanted grammar.minus stack frame first) (Ok next)
unfolding at_wanted
first_minus P w next pending made fresh stack frame true h k goes_on = rw (made, fresh) (record { outer = h; inner = record { sum = λ f. refl; product = λ f. refl }; reading = tt })
first_minus P w next pending made fresh stack frame false h k goes_on = absurd (goes_on refl)

-- behind a factor

pub standing_sign : (P : Presentation) (w : Work) (factor : Factor) (b : ℕ) (sign : grammar.Sign) (result : Result Work ValueFault) → w.reading ≡ Standing factor → first_sign b signs ≡ sign
    → ((stack : List Frame) (frame : Frame) (raisable : Bool) (e : Expression) → ArePendingOf P stack w.outer.items → IsPendingOf P frame w.inner → IsFactorOf P e factor
    → at_standing sign stack frame e raisable ≢ stuck → Works P (at_standing sign stack frame e raisable) result)
    → ReadsOn P w (symbol b) result
unfolding read
standing_sign P w factor b sign result stood is step r h goes_on =
    let found = when_standing P w r factor stood h in
    let at = found.1.at in
    let reads : read r (symbol b) ≡ at_standing sign at.stack at.frame found.1.expression found.0 =
    ap (λ (r : Reader). read r (symbol b)) at.is ∙ ap (λ (sign : grammar.Sign). at_standing sign at.stack at.frame found.1.expression found.0) is in
    subst (λ (r : Reader). Works P r result) (sym reads) (step at.stack at.frame found.0 found.1.expression at.outer at.inner found.1.worth (λ e. goes_on (reads ∙ e)))

pub raises : (P : Presentation) (w next : Work) (factor : Factor) → next ≡ work w.outer w.inner (Raising factor)
    → (stack : List Frame) (frame : Frame) (raisable : Bool) (e : Expression) → ArePendingOf P stack w.outer.items → IsPendingOf P frame w.inner → IsFactorOf P e factor
    → at_standing grammar.raise stack frame e raisable ≢ stuck → Works P (at_standing grammar.raise stack frame e raisable) (Ok next)
unfolding at_standing
raises P w next factor made stack frame true e h k worth goes_on = rw made (record { outer = h; inner = k; reading = worth })
raises P w next factor made stack frame false e h k worth goes_on = absurd (goes_on refl)

-- what `times` gives
abbrev pub TimesGives : Presentation → Pending → AlgebraElement → Result Pending ValueFault → Type 0
TimesGives P inner v result = (frame : Frame) (e : Expression) → IsPendingOf P frame inner → IsWorth P e v
    → MatchResult result (IsPendingOf P (record { joins = frame.joins; times = λ f. expressions.product (frame.times e) f })) (Tells (λ cause. HasValue P (frame.times e) (Err cause)))

pub multiplies_further : (P : Presentation) (w next : Work) (factor : Factor) (inner : Pending) → next ≡ work w.outer inner Wanted
    → TimesGives P w.inner factor.value (Ok inner)
    → (stack : List Frame) (frame : Frame) (raisable : Bool) (e : Expression) → ArePendingOf P stack w.outer.items → IsPendingOf P frame w.inner → IsFactorOf P e factor
    → at_standing grammar.times stack frame e raisable ≢ stuck → Works P (at_standing grammar.times stack frame e raisable) (Ok next)
unfolding at_standing
multiplies_further P w next factor inner made gives stack frame raisable e h k worth goes_on = rw made (record { outer = h; inner = gives frame e k worth.worth; reading = tt })

pub product_fails : (P : Presentation) (w : Work) (factor : Factor) (why : ValueFault) → TimesGives P w.inner factor.value (Err why)
    → (stack : List Frame) (frame : Frame) (raisable : Bool) (e : Expression) → ArePendingOf P stack w.outer.items → IsPendingOf P frame w.inner → IsFactorOf P e factor
    → at_standing grammar.times stack frame e raisable ≢ stuck → Works P (at_standing grammar.times stack frame e raisable) (Err why)
unfolding at_standing
product_fails P w factor why gives stack frame raisable e h k worth goes_on =
    let passes = pending_passes P frame w.inner k in
    tells_more _ _ (λ cause m. inl (in_product (λ f. of_product_left m) (λ f n. passes.joins f cause n), stack_passes P stack _ h)) why (gives frame e k worth.worth)

-- what `total` gives
abbrev pub TotalGives : Presentation → Pending → AlgebraElement → Result AlgebraElement ValueFault → Type 0
TotalGives P inner v result = (frame : Frame) (e : Expression) → IsPendingOf P frame inner → IsWorth P e v → Gives P (closed frame e) result

pub adds_further : (P : Presentation) (w next : Work) (factor : Factor) (v : AlgebraElement) (inner : Pending) → next ≡ work w.outer inner Wanted
    → inner ≡ record { sum = Some v; is_negative = false; product = None } → TotalGives P w.inner factor.value (Ok v)
    → (stack : List Frame) (frame : Frame) (raisable : Bool) (e : Expression) → ArePendingOf P stack w.outer.items → IsPendingOf P frame w.inner → IsFactorOf P e factor
    → at_standing grammar.plus stack frame e raisable ≢ stuck → Works P (at_standing grammar.plus stack frame e raisable) (Ok next)
unfolding at_standing
adds_further P w next factor v inner made is gives stack frame raisable e h k worth goes_on =
    rw (made, is) (record { outer = h; inner = record { sum = (_, gives frame e k worth.worth, λ f. refl); product = λ f. refl }; reading = tt })

pub subtracts_further : (P : Presentation) (w next : Work) (factor : Factor) (v : AlgebraElement) (inner : Pending) → next ≡ work w.outer inner Wanted
    → inner ≡ record { sum = Some v; is_negative = true; product = None } → TotalGives P w.inner factor.value (Ok v)
    → (stack : List Frame) (frame : Frame) (raisable : Bool) (e : Expression) → ArePendingOf P stack w.outer.items → IsPendingOf P frame w.inner → IsFactorOf P e factor
    → at_standing grammar.minus stack frame e raisable ≢ stuck → Works P (at_standing grammar.minus stack frame e raisable) (Ok next)
unfolding at_standing
subtracts_further P w next factor v inner made is gives stack frame raisable e h k worth goes_on =
    rw (made, is) (record { outer = h; inner = record { sum = (_, gives frame e k worth.worth, λ f. refl); product = λ f. refl }; reading = tt })

-- the signs that end a term
abbrev pub EndsTerm : grammar.Sign → Type 0
EndsTerm grammar.plus = Unit {0}
EndsTerm grammar.minus = Unit {0}
EndsTerm grammar.close_ = Unit {0}
EndsTerm _ = ⊥

close_fails : (P : Presentation) (cause : Cause) (stack : List Frame) (e : Expression) → HasValue P e (Err cause) → PassOn P stack → IsFaulty P cause (close stack e)
unfolding close
close_fails P cause [] e h pass = tt
close_fails P cause (frame ∷ stack) e h pass = inr (of_group h, pass)

ended_faulty : (P : Presentation) (cause : Cause) (sign : grammar.Sign) → EndsTerm sign → (stack : List Frame) (frame : Frame) (e : Expression) (raisable : Bool)
    → HasValue P (closed frame e) (Err cause) → PassOn P stack → IsFaulty P cause (at_standing sign stack frame e raisable)
unfolding at_standing
ended_faulty P cause grammar.plus ends stack frame e raisable h pass = inl (in_sum (λ f. of_sum_left h), pass)
ended_faulty P cause grammar.minus ends stack frame e raisable h pass = inl (in_sum (λ f. of_difference_left h), pass)
ended_faulty P cause grammar.close_ ends stack frame e raisable h pass = close_fails P cause stack _ h pass
ended_faulty P cause grammar.times ends stack frame e raisable h pass = absurd ends
ended_faulty P cause grammar.raise ends stack frame e raisable h pass = absurd ends
ended_faulty P cause grammar.open_ ends stack frame e raisable h pass = absurd ends
ended_faulty P cause grammar.other ends stack frame e raisable h pass = absurd ends

-- a sum that has a fault, at each sign behind it
pub sum_fails : (P : Presentation) (w : Work) (factor : Factor) (why : ValueFault) (sign : grammar.Sign) → EndsTerm sign → TotalGives P w.inner factor.value (Err why)
    → (stack : List Frame) (frame : Frame) (raisable : Bool) (e : Expression) → ArePendingOf P stack w.outer.items → IsPendingOf P frame w.inner → IsFactorOf P e factor
    → at_standing sign stack frame e raisable ≢ stuck → Works P (at_standing sign stack frame e raisable) (Err why)
sum_fails P w factor why sign ends gives stack frame raisable e h k worth goes_on =
    tells_more _ _ (λ cause m. ended_faulty P cause sign ends stack frame e raisable m (stack_passes P stack _ h)) why (gives frame e k worth.worth)

-- what stood before the innermost open parenthesis
popped_pending : (P : Presentation) (stack : List Frame) (frame : Frame) (all : List Pending) → ArePendingOf P (frame ∷ stack) all → (outer : List Pending) (inner : Pending)
    → all ≡ outer ++ inner ∷ [] → ArePendingOf P stack outer × IsPendingOf P frame inner
popped_pending P stack frame all (one {outer = before} {inner = last} h k is) outer inner popped =
    let same = last_alike before outer last inner (sym is ∙ popped) in
    (subst (λ (outer : List Pending). ArePendingOf P stack outer) same.0 h, subst (λ (inner : Pending). IsPendingOf P frame inner) same.1 k)

-- an expression in parentheses
in_group : (P : Presentation) (e : Expression) (v : AlgebraElement) → IsWorth P e v → IsFactorOf P (expressions.grouped e) (record { value = v; letter = None })
in_group P e v h = record {
  worth = record { value = of_group h.value; reduced = h.reduced };
  letter = λ letter. ((λ is. absurd (cc)), (λ l. absurd (let is = l.is_name in cc)));
}

-- the work within parentheses that a closing one ends
pub closes_one : (P : Presentation) (w next : Work) (factor : Factor) (v : AlgebraElement) → w.outer.items ≡ next.outer.items ++ next.inner ∷ []
    → next.reading ≡ Standing (record { value = v; letter = None }) → TotalGives P w.inner factor.value (Ok v)
    → (stack : List Frame) (frame : Frame) (raisable : Bool) (e : Expression) → ArePendingOf P stack w.outer.items → IsPendingOf P frame w.inner → IsFactorOf P e factor
    → at_standing grammar.close_ stack frame e raisable ≢ stuck → Works P (at_standing grammar.close_ stack frame e raisable) (Ok next)
unfolding at_standing close
closes_one P w next factor v popped is gives [] frame raisable e h k worth goes_on = absurd (goes_on refl)
closes_one P w next factor v popped is gives (before ∷ stack) frame raisable e h k worth goes_on =
    let parts = popped_pending P stack before _ h _ _ popped in
    record { outer = parts.0; inner = parts.1; reading = rw is (in_group P _ v (gives frame e k worth.worth)) }

-- tokens that can't follow

pub wanted_never : (P : Presentation) (w : Work) (t : Token) → w.reading ≡ Wanted
    → ((stack : List Frame) (frame : Frame) (first : Bool) → read (reading stack frame (wanted first)) t ≡ stuck) → CanRead P w t → ⊥
wanted_never P w t wants steps can =
    let at = when_wanted P w can.reader wants can.is_work in
    can.goes_on (ap (λ (r : Reader). read r t) at.1.is ∙ steps at.1.stack at.1.frame at.0)

pub standing_never : (P : Presentation) (w : Work) (factor : Factor) (t : Token) → w.reading ≡ Standing factor
    → ((stack : List Frame) (frame : Frame) (raisable : Bool) (e : Expression) → read (reading stack frame (stands raisable e)) t ≡ stuck) → CanRead P w t → ⊥
standing_never P w factor t stood steps can =
    let found = when_standing P w can.reader factor stood can.is_work in
    can.goes_on (ap (λ (r : Reader). read r t) found.1.at.is ∙ steps found.1.at.stack found.1.at.frame found.0 found.1.expression)

pub raising_never : (P : Presentation) (w : Work) (factor : Factor) (t : Token) → w.reading ≡ Raising factor
    → ((stack : List Frame) (frame : Frame) (e : Expression) → read (reading stack frame (raising e)) t ≡ stuck) → CanRead P w t → ⊥
raising_never P w factor t raised steps can =
    let found = when_raising P w can.reader factor raised can.is_work in
    can.goes_on (ap (λ (r : Reader). read r t) found.at.is ∙ steps found.at.stack found.at.frame found.expression)

pub inverting_never : (P : Presentation) (w : Work) (factor : Factor) (t : Token) → w.reading ≡ Inverting factor
    → ((stack : List Frame) (frame : Frame) (e : Expression) → read (reading stack frame (inverting e)) t ≡ stuck) → CanRead P w t → ⊥
inverting_never P w factor t inverts steps can =
    let found = when_inverting P w can.reader factor inverts can.is_work in
    can.goes_on (ap (λ (r : Reader). read r t) found.at.is ∙ steps found.at.stack found.at.frame found.expression)

pub never_first : (b : ℕ) (sign : Sign) → first_sign b signs ≡ read_as sign → (sign ≡ Times) ⊎ ((sign ≡ Power) ⊎ ((sign ≡ Close) ⊎ (sign ≡ Other)))
    → (stack : List Frame) (frame : Frame) (first : Bool) → read (reading stack frame (wanted first)) (symbol b) ≡ stuck
unfolding read at_wanted
never_first b sign is (inl which) stack frame first = rw (is, which) refl
never_first b sign is (inr (inl which)) stack frame first = rw (is, which) refl
never_first b sign is (inr (inr (inl which))) stack frame first = rw (is, which) refl
never_first b sign is (inr (inr (inr which))) stack frame first = rw (is, which) refl

pub never_behind : (b : ℕ) (sign : Sign) → first_sign b signs ≡ read_as sign → (sign ≡ Open) ⊎ (sign ≡ Other)
    → (stack : List Frame) (frame : Frame) (raisable : Bool) (e : Expression) → read (reading stack frame (stands raisable e)) (symbol b) ≡ stuck
unfolding read at_standing
never_behind b sign is (inl which) stack frame raisable e = rw (is, which) refl
never_behind b sign is (inr which) stack frame raisable e = rw (is, which) refl

pub name_behind : (x : List ℕ) (stack : List Frame) (frame : Frame) (raisable : Bool) (e : Expression) → read (reading stack frame (stands raisable e)) (name x) ≡ stuck
unfolding read
name_behind x stack frame raisable e = refl

pub number_behind : (digits : List ℕ) (stack : List Frame) (frame : Frame) (raisable : Bool) (e : Expression) → read (reading stack frame (stands raisable e)) (number digits) ≡ stuck
unfolding read
number_behind digits stack frame raisable e = refl

pub name_raised : (x : List ℕ) (stack : List Frame) (frame : Frame) (e : Expression) → read (reading stack frame (raising e)) (name x) ≡ stuck
unfolding read
name_raised x stack frame e = refl

pub name_inverted : (x : List ℕ) (stack : List Frame) (frame : Frame) (e : Expression) → read (reading stack frame (inverting e)) (name x) ≡ stuck
unfolding read
name_inverted x stack frame e = refl

pub symbol_inverted : (b : ℕ) (stack : List Frame) (frame : Frame) (e : Expression) → read (reading stack frame (inverting e)) (symbol b) ≡ stuck
unfolding read
symbol_inverted b stack frame e = refl

-- a closing parenthesis can follow only within an open one
pub some_open : (P : Presentation) (w : Work) (factor : Factor) (b : ℕ) → w.reading ≡ Standing factor → first_sign b signs ≡ grammar.close_ → CanRead P w (symbol b) → w.outer.items ≢ []
unfolding read at_standing close
some_open P w factor b stood is can none_open =
    let found = when_standing P w can.reader factor stood can.is_work in
    let at = found.1.at in
    let reads : read can.reader (symbol b) ≡ close at.stack (closed at.frame found.1.expression) =
    ap (λ (r : Reader). read r (symbol b)) at.is ∙ ap (λ (sign : grammar.Sign). at_standing sign at.stack at.frame found.1.expression found.0) is in
    by_stack at.stack (closed at.frame found.1.expression) (subst (λ (items : List Pending). ArePendingOf P at.stack items) none_open at.outer) (λ e. can.goes_on (reads ∙ e))
  where
    by_stack : (stack : List Frame) (e : Expression) → ArePendingOf P stack [] → close stack e ≢ stuck → ⊥
    by_stack [] e h goes_on = goes_on refl
    by_stack (frame ∷ stack) e (one {outer = outer} {inner = inner} h k is) goes_on = too_short outer inner is

-- powers

-- what a power gives
abbrev pub PowerGives : Presentation → Factor → (Expression → Expression) → Result Factor ValueFault → Type 0
PowerGives P factor raise result = (e : Expression) → IsFactorOf P e factor → MatchResult result (IsFactorOf P (raise e)) (Tells (λ cause. HasValue P (raise e) (Err cause)))

raised : (P : Presentation) (w : Work) (r : Reader) (t : Token) (factor : Factor) (state : Expression → grammar.Reading) (raise : Expression → Expression) → IsAtFactor P w r factor state
    → ((stack : List Frame) (frame : Frame) (e : Expression) → read (reading stack frame (state e)) t ≡ reading stack frame (stands false (raise e)))
    → (power : Factor) (next : Work) → PowerGives P factor raise (Ok power) → Made next w (Standing power) → Works P (read r t) (Ok next)
raised P w r t factor state raise found steps power next gives made =
    rw (found.at.is, steps found.at.stack found.at.frame found.expression, made)
    (record { outer = found.at.outer; inner = found.at.inner; reading = gives found.expression found.worth })

raising_fails : (P : Presentation) (w : Work) (r : Reader) (t : Token) (factor : Factor) (state : Expression → grammar.Reading) (raise : Expression → Expression) → IsAtFactor P w r factor state
    → ((stack : List Frame) (frame : Frame) (e : Expression) → read (reading stack frame (state e)) t ≡ reading stack frame (stands false (raise e)))
    → (why : ValueFault) → PowerGives P factor raise (Err why) → Works P (read r t) (Err why)
raising_fails P w r t factor state raise found steps why gives =
    rw (found.at.is, steps found.at.stack found.at.frame found.expression)
    (tells_more _ _ (λ cause k. inr (k, (pending_passes P _ _ found.at.inner, stack_passes P _ _ found.at.outer))) why (gives found.expression found.worth))

power_read : (digits : List ℕ) (n : ℕ) → n ≡ number_value digits → (stack : List Frame) (frame : Frame) (e : Expression)
    → read (reading stack frame (raising e)) (number digits) ≡ reading stack frame (stands false (expressions.power e n))
unfolding read
power_read digits n is stack frame e = rw is refl

inverse_read : (digits : List ℕ) (n : ℕ) → n ≡ number_value digits → (stack : List Frame) (frame : Frame) (e : Expression)
    → read (reading stack frame (inverting e)) (number digits) ≡ reading stack frame (stands false (expressions.inverse_power e n))
unfolding read
inverse_read digits n is stack frame e = rw is refl

pub power_stands : (P : Presentation) (w next : Work) (factor power : Factor) (digits : List ℕ) (n : ℕ) → w.reading ≡ Raising factor → n ≡ number_value digits
    → PowerGives P factor (λ e. expressions.power e n) (Ok power) → Made next w (Standing power) → ReadsOn P w (number digits) (Ok next)
power_stands P w next factor power digits n raises is gives made r h goes_on =
    raised P w r (number digits) factor raising _ (when_raising P w r factor raises h) (power_read digits n is) power next gives made

pub power_fails : (P : Presentation) (w : Work) (factor : Factor) (digits : List ℕ) (n : ℕ) (why : ValueFault) → w.reading ≡ Raising factor → n ≡ number_value digits
    → PowerGives P factor (λ e. expressions.power e n) (Err why) → ReadsOn P w (number digits) (Err why)
power_fails P w factor digits n why raises is gives r h goes_on =
    raising_fails P w r (number digits) factor raising _ (when_raising P w r factor raises h) (power_read digits n is) why gives

pub inverse_stands : (P : Presentation) (w next : Work) (factor power : Factor) (digits : List ℕ) (n : ℕ) → w.reading ≡ Inverting factor → n ≡ number_value digits
    → PowerGives P factor (λ e. expressions.inverse_power e n) (Ok power) → Made next w (Standing power) → ReadsOn P w (number digits) (Ok next)
inverse_stands P w next factor power digits n inverts is gives made r h goes_on =
    raised P w r (number digits) factor inverting _ (when_inverting P w r factor inverts h) (inverse_read digits n is) power next gives made

pub inverse_fails : (P : Presentation) (w : Work) (factor : Factor) (digits : List ℕ) (n : ℕ) (why : ValueFault) → w.reading ≡ Inverting factor → n ≡ number_value digits
    → PowerGives P factor (λ e. expressions.inverse_power e n) (Err why) → ReadsOn P w (number digits) (Err why)
inverse_fails P w factor digits n why inverts is gives r h goes_on =
    raising_fails P w r (number digits) factor inverting _ (when_inverting P w r factor inverts h) (inverse_read digits n is) why gives

only_minus : (sign : grammar.Sign) (stack : List Frame) (frame : Frame) (e : Expression) → at_raising sign stack frame e ≢ stuck → at_raising sign stack frame e ≡ reading stack frame (inverting e)
unfolding at_raising
only_minus grammar.minus stack frame e h = refl
only_minus grammar.plus stack frame e h = absurd (h refl)
only_minus grammar.times stack frame e h = absurd (h refl)
only_minus grammar.raise stack frame e h = absurd (h refl)
only_minus grammar.open_ stack frame e h = absurd (h refl)
only_minus grammar.close_ stack frame e h = absurd (h refl)
only_minus grammar.other stack frame e h = absurd (h refl)

-- a sign behind that of a power is a minus
pub inverts : (P : Presentation) (w : Work) (factor : Factor) (b : ℕ) → w.reading ≡ Raising factor
    → ReadsOn P w (symbol b) (Ok (work w.outer w.inner (Inverting factor)))
unfolding read
inverts P w factor b raises r h goes_on =
    let found = when_raising P w r factor raises h in
    let at = found.at in
    let reads : read r (symbol b) ≡ at_raising (first_sign b signs) at.stack at.frame found.expression = ap (λ (r : Reader). read r (symbol b)) at.is in
    let minus : read r (symbol b) ≡ reading at.stack at.frame (inverting found.expression) = reads ∙ only_minus _ at.stack at.frame found.expression (λ e. goes_on (reads ∙ e)) in
    rw minus (record { outer = at.outer; inner = at.inner; reading = found.worth })

-- whole expressions

pub open_within : (P : Presentation) (w : Work) (r : Reader) → IsWorkOf P r w → w.outer.items ≢ [] → is_some (expression_read r) ≡ false
unfolding expression_read
open_within P w stuck h some = refl
open_within P w (reading [] frame state) h some = absurd (some (no_outer _ h.outer))
  where
    no_outer : (items : List Pending) → ArePendingOf P [] items → items ≡ []
    no_outer _ none = refl
open_within P w (reading (outer ∷ stack) frame state) h some = refl

no_stack : (P : Presentation) (stack : List Frame) → ArePendingOf P stack [] → stack ≡ []
no_stack P [] h = refl
no_stack P (frame ∷ stack) (one {outer = outer} {inner = inner} h k is) = absurd (too_short outer inner is)

pub stands_whole : (P : Presentation) (w : Work) (factor : Factor) (r : Reader) → IsWorkOf P r w → w.outer.items ≡ [] → w.reading ≡ Standing factor → is_some (expression_read r) ≡ true
unfolding expression_read
stands_whole P w factor r h closed stood =
    let found = when_standing P w r factor stood h in
    let at = found.1.at in
    let out : at.stack ≡ [] = no_stack P at.stack (subst (λ (items : List Pending). ArePendingOf P at.stack items) closed at.outer) in
    ap (λ (r : Reader). is_some (expression_read r)) at.is ∙ ap (λ (stack : List Frame). is_some (expression_read (reading stack at.frame (stands found.0 found.1.expression)))) out

-- where a factor is wanted, or raised, no expression stands
wants_more : (stack : List Frame) (frame : Frame) (first : Bool) → is_some (expression_read (reading stack frame (wanted first))) ≡ false
unfolding expression_read
wants_more [] frame first = refl
wants_more (outer ∷ stack) frame first = refl

raises_more : (stack : List Frame) (frame : Frame) (e : Expression) → is_some (expression_read (reading stack frame (raising e))) ≡ false
unfolding expression_read
raises_more [] frame e = refl
raises_more (outer ∷ stack) frame e = refl

inverts_more : (stack : List Frame) (frame : Frame) (e : Expression) → is_some (expression_read (reading stack frame (inverting e))) ≡ false
unfolding expression_read
inverts_more [] frame e = refl
inverts_more (outer ∷ stack) frame e = refl

pub not_whole : (P : Presentation) (w : Work) (r : Reader) → IsWorkOf P r w → (w.reading ≡ Wanted) ⊎ (((factor : Factor) × (w.reading ≡ Raising factor)) ⊎ ((factor : Factor) × (w.reading ≡ Inverting factor)))
    → is_some (expression_read r) ≡ false
not_whole P w r h (inl is) = let at = when_wanted P w r is h in ap (λ (r : Reader). is_some (expression_read r)) at.1.is ∙ wants_more _ _ _
not_whole P w r h (inr (inl (factor, is))) = let found = when_raising P w r factor is h in ap (λ (r : Reader). is_some (expression_read r)) found.at.is ∙ raises_more _ _ _
not_whole P w r h (inr (inr (factor, is))) = let found = when_inverting P w r factor is h in ap (λ (r : Reader). is_some (expression_read r)) found.at.is ∙ inverts_more _ _ _

sum_read : (stack : List Frame) (frame : Frame) (raisable : Bool) (d e : Expression) → expression_read (reading stack frame (stands raisable d)) ≡ Some e → closed frame d ≡ e
unfolding expression_read
sum_read [] frame raisable d e is = (cc)
sum_read (outer ∷ stack) frame raisable d e is = absurd (cc)

-- the value of the expression that stands
pub finishes : (P : Presentation) (w : Work) (factor : Factor) (result : Result AlgebraElement ValueFault) → w.reading ≡ Standing factor → TotalGives P w.inner factor.value result
    → (r : Reader) (e : Expression) → IsWorkOf P r w → expression_read r ≡ Some e → Gives P e result
finishes P w factor result stood gives r e h is =
    let found = when_standing P w r factor stood h in
    let at = found.1.at in
    let same = sum_read at.stack at.frame found.0 found.1.expression e (ap expression_read (sym at.is) ∙ is) in
    subst (λ (e : Expression). Gives P e result) same (gives at.frame found.1.expression at.inner found.1.worth.worth)
