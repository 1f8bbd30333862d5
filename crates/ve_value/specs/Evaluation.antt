-- How the front of an expression is worked out.
use Rattle.std.specs.Prelude.{◌≡◌, ◌≢◌, ℕ, Bool, true, false, List, [], ◌∷◌, ◌++◌, Option, Some, None, Result, Ok, Err}
use Rattle.std.specs.Prelude.{MatchResult, ◌↔◌, ◌⊎◌}
use Rattle.ve_theory.specs.Combinations.{IsReduced}
use Rattle.ve_theory.specs.Words.{ShortlexLetters}
use Rattle.ve_theory.specs.Elements.{AlgebraElement}
use Rattle.ve_theory.specs.Presentations.{Presentation}
use Rattle.ve_formats.specs.Causes.{Cause}
use Rattle.ve_formats.specs.Expressions as expressions
use Rattle.ve_formats.specs.Expressions.{Expression}
use Rattle.ve_formats.specs.Values.{HasValue, HasNumber}
use Rattle.ve_formats.specs.Reading as grammar
use Rattle.ve_formats.specs.Reading.{Frame, Reader, stuck, reading, wanted, stands, raising, inverting, read}
use Rattle.ve_formats.specs.Tokens.{Token}
use Rattle.ve_value.specs.declared.factor.Factor.{Factor}
use Rattle.ve_value.specs.declared.factor.Pending.{Pending}
use Rattle.ve_value.specs.declared.value.Reading.{Reading}
use Rattle.ve_value.specs.declared.value.Reading.TheVariants.{Wanted, Standing, Raising, Inverting}
use Rattle.ve_value.specs.declared.value.Work.{Work}
use Rattle.ve_value.specs.declared.fault.ValueFault.{ValueFault}
use Rattle.ve_value.specs.Faults.{Tells}

-- the value of an expression
pub record IsWorth (P : Presentation) (e : Expression) (v : AlgebraElement) : Type 0 where
  pub value : HasValue P e (Ok v)
  pub reduced : IsReduced ShortlexLetters P.prime v

-- the expression is the name of a letter
pub record IsLetter (P : Presentation) (e : Expression) (letter : ℕ) : Type 0 where
  pub name : List ℕ
  pub is_name : e ≡ expressions.letter name
  pub numbered : HasNumber P.names name letter

-- the value of a factor, and the letter where it is a letter's name
pub record IsFactorOf (P : Presentation) (e : Expression) (factor : Factor) : Type 0 where
  pub worth : IsWorth P e factor.value
  pub letter : (letter : ℕ) → (factor.letter ≡ Some letter) ↔ IsLetter P e letter

-- the factor of an expression, or what its refusal tells
abbrev pub GivesFactor : Presentation → Expression → Result Factor ValueFault → Type 0
GivesFactor P e result = MatchResult result (IsFactorOf P e) (Tells (λ cause. HasValue P e (Err cause)))

-- the product so far, where there is one, is that to which the next factor belongs
abbrev pub IsProductOf : Presentation → (Expression → Expression) → Option AlgebraElement → Type 0
IsProductOf P times None = (f : Expression) → times f ≡ f
IsProductOf P times (Some v) = (d : Expression) × IsWorth P d v × ((f : Expression) → times f ≡ expressions.product d f)

-- the sum so far, where there is one, is that to which the next term belongs
abbrev pub IsSumOf : Presentation → (Expression → Expression) → Bool → Option AlgebraElement → Type 0
IsSumOf P joins false None = (f : Expression) → joins f ≡ f
IsSumOf P joins true None = (f : Expression) → joins f ≡ expressions.opposite f
IsSumOf P joins false (Some v) = (d : Expression) × IsWorth P d v × ((f : Expression) → joins f ≡ expressions.sum d f)
IsSumOf P joins true (Some v) = (d : Expression) × IsWorth P d v × ((f : Expression) → joins f ≡ expressions.difference d f)

pub record IsPendingOf (P : Presentation) (frame : Frame) (pending : Pending) : Type 0 where
  pub sum : IsSumOf P frame.joins pending.is_negative pending.sum
  pub product : IsProductOf P frame.times pending.product

-- what stands before open parentheses; the frames are listed from the innermost to the outermost
pub data ArePendingOf (P : Presentation) : List Frame → List Pending → Type 0 where
  none : ArePendingOf P [] []
  one : {stack : List Frame} {frame : Frame} {outer all : List Pending} {inner : Pending} → ArePendingOf P stack outer
      → IsPendingOf P frame inner → all ≡ outer ++ inner ∷ [] → ArePendingOf P (frame ∷ stack) all

abbrev pub IsReadingOf : Presentation → grammar.Reading → Reading → Type 0
IsReadingOf P (wanted first) Wanted = Unit {0}
IsReadingOf P (stands raisable e) (Standing factor) = IsFactorOf P e factor
IsReadingOf P (raising e) (Raising factor) = IsFactorOf P e factor
IsReadingOf P (inverting e) (Inverting factor) = IsFactorOf P e factor
IsReadingOf P _ _ = ⊥

pub record IsFrontOf (P : Presentation) (stack : List Frame) (frame : Frame) (state : grammar.Reading) (work : Work) : Type 0 where
  pub outer : ArePendingOf P stack work.outer.items
  pub inner : IsPendingOf P frame work.inner
  pub reading : IsReadingOf P state work.reading

-- the work is what a reader has read, worked out
abbrev pub IsWorkOf : Presentation → Reader → Work → Type 0
IsWorkOf P stuck work = ⊥
IsWorkOf P (grammar.reading stack frame state) work = IsFrontOf P stack frame state work

-- Faults. What was read has one that comes before those of all that follows.

-- a fault of what comes next is one of the whole
pub record PassesOn (P : Presentation) (frame : Frame) : Type 0 where
  pub times : (e : Expression) (cause : Cause) → HasValue P e (Err cause) → HasValue P (frame.times e) (Err cause)
  pub joins : (e : Expression) (cause : Cause) → HasValue P e (Err cause) → HasValue P (frame.joins e) (Err cause)

abbrev pub PassOn : Presentation → List Frame → Type 0
PassOn P [] = Unit {0}
PassOn P (frame ∷ stack) = PassesOn P frame × PassOn P stack

-- the sum so far has the fault, or the product so far, which is joined to a sum without one
pub data IsFaultyFrame (P : Presentation) (cause : Cause) (frame : Frame) : Type 0 where
  in_sum : ((e : Expression) → HasValue P (frame.joins e) (Err cause)) → IsFaultyFrame P cause frame
  in_product : ((e : Expression) → HasValue P (frame.times e) (Err cause))
      → ((e : Expression) → HasValue P e (Err cause) → HasValue P (frame.joins e) (Err cause)) → IsFaultyFrame P cause frame

-- one of the frames has the fault, and those outside of it have none
abbrev pub AreFaulty : Presentation → Cause → List Frame → Type 0
AreFaulty P cause [] = ⊥
AreFaulty P cause (frame ∷ stack) = (IsFaultyFrame P cause frame × PassOn P stack) ⊎ AreFaulty P cause stack

-- the frames have the fault, or the expression that stands within them
abbrev pub IsFaultyWith : Presentation → Cause → List Frame → Expression → Type 0
IsFaultyWith P cause frames e = AreFaulty P cause frames ⊎ (HasValue P e (Err cause) × PassOn P frames)

-- The front has the fault. Where a first sign may still stand, the innermost frame is blank.
abbrev pub IsFaultyFront : Presentation → Cause → List Frame → Frame → grammar.Reading → Type 0
IsFaultyFront P cause stack frame (wanted true) = AreFaulty P cause stack
IsFaultyFront P cause stack frame (wanted false) = AreFaulty P cause (frame ∷ stack)
IsFaultyFront P cause stack frame (stands raisable e) = IsFaultyWith P cause (frame ∷ stack) e
IsFaultyFront P cause stack frame (raising e) = IsFaultyWith P cause (frame ∷ stack) e
IsFaultyFront P cause stack frame (inverting e) = IsFaultyWith P cause (frame ∷ stack) e

-- what a reader has read has the fault
abbrev pub IsFaulty : Presentation → Cause → Reader → Type 0
IsFaulty P cause stuck = Unit {0}
IsFaulty P cause (grammar.reading stack frame state) = IsFaultyFront P cause stack frame state

-- the work of a reader, or the fault of what it has read
abbrev pub Works : Presentation → Reader → Result Work ValueFault → Type 0
Works P r result = MatchResult result (IsWorkOf P r) (Tells (λ cause. IsFaulty P cause r))

-- the work goes on with a token as each reader does that can go on
abbrev pub ReadsOn : Presentation → Work → Token → Result Work ValueFault → Type 0
ReadsOn P work t result = (r : Reader) → IsWorkOf P r work → read r t ≢ stuck → Works P (read r t) result

-- the work is that of a reader which can go on with a token
pub record CanRead (P : Presentation) (work : Work) (t : Token) : Type 0 where
  pub reader : Reader
  pub is_work : IsWorkOf P reader work
  pub goes_on : read reader t ≢ stuck
