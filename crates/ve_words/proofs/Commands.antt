-- What is read for each command's name.
use Rattle.std.specs.Prelude.{◌≡◌, ℕ, Bool, List, [], ◌∷◌, Result, Ok, Err, codes, slice_index, drop}
use Rattle.std.proofs.Common.{refl, ap, sym, subst, ◌∙◌, arith}
use Rattle.clap.specs.Words.{App, Row, Text, fault_of, matches_of}
use Rattle.ve_words.specs.declared.fault.WordsFault.{WordsFault}
use Rattle.ve_words.specs.declared.fault.WordsFault.TheVariants.{Refused, Memory}
use Rattle.ve_words.specs.declared.command.Command.{Command}
use Rattle.ve_words.specs.declared.command.Command.TheVariants.{Alone, Shared, Show, Check, Make}
use Rattle.ve_words.specs.Meaning.{Takes, Reads, IsNumber, IsFlag, Means, head_of, name_of, alone_app, shared_app, make_app}

-- two texts that differ at a place
pub apart : (place : ℕ) (a b : Text) → a ≡ b → (slice_index a place ≡ slice_index b place → ⊥) → ⊥
apart place a b e differ = differ (ap (λ t. slice_index t place) e)

module _ (words : List Text) where
  pub only_alone : ((limit : ℕ) (set : Bool) → Takes words (Alone limit set) → ⊥) → (command : Command) → name_of command ≡ codes "alone" → Takes words command → ⊥
  only_alone none (Alone limit set) e h = none limit set h
  only_alone _ (Shared workers limit set) e _ = apart 0 _ _ e (λ h. omega arith)
  only_alone _ Show e _ = apart 0 _ _ e (λ h. omega arith)
  only_alone _ Check e _ = apart 0 _ _ e (λ h. omega arith)
  only_alone _ (Make points node prime) e _ = apart 0 _ _ e (λ h. omega arith)

  pub only_shared : ((workers limit : ℕ) (set : Bool) → Takes words (Shared workers limit set) → ⊥) → (command : Command) → name_of command ≡ codes "shared" → Takes words command → ⊥
  only_shared _ (Alone limit set) e _ = apart 0 _ _ e (λ h. omega arith)
  only_shared none (Shared workers limit set) e h = none workers limit set h
  only_shared _ Show e _ = apart 2 _ _ e (λ h. omega arith)
  only_shared _ Check e _ = apart 0 _ _ e (λ h. omega arith)
  only_shared _ (Make points node prime) e _ = apart 0 _ _ e (λ h. omega arith)

  pub only_show : (Takes words Show → ⊥) → (command : Command) → name_of command ≡ codes "show" → Takes words command → ⊥
  only_show _ (Alone limit set) e _ = apart 0 _ _ e (λ h. omega arith)
  only_show _ (Shared workers limit set) e _ = apart 2 _ _ e (λ h. omega arith)
  only_show none Show e h = none h
  only_show _ Check e _ = apart 0 _ _ e (λ h. omega arith)
  only_show _ (Make points node prime) e _ = apart 0 _ _ e (λ h. omega arith)

  pub only_check : (Takes words Check → ⊥) → (command : Command) → name_of command ≡ codes "check" → Takes words command → ⊥
  only_check _ (Alone limit set) e _ = apart 0 _ _ e (λ h. omega arith)
  only_check _ (Shared workers limit set) e _ = apart 0 _ _ e (λ h. omega arith)
  only_check _ Show e _ = apart 0 _ _ e (λ h. omega arith)
  only_check none Check e h = none h
  only_check _ (Make points node prime) e _ = apart 0 _ _ e (λ h. omega arith)

  pub only_make : ((points node prime : ℕ) → Takes words (Make points node prime) → ⊥) → (command : Command) → name_of command ≡ codes "make" → Takes words command → ⊥
  only_make _ (Alone limit set) e _ = apart 0 _ _ e (λ h. omega arith)
  only_make _ (Shared workers limit set) e _ = apart 0 _ _ e (λ h. omega arith)
  only_make _ Show e _ = apart 0 _ _ e (λ h. omega arith)
  only_make _ Check e _ = apart 0 _ _ e (λ h. omega arith)
  only_make none (Make points node prime) e h = none points node prime h

-- ---- what is taken

taken_by : (words : List Text) (app made : App) → app ≡ made → fault_of app words ≡ [] → fault_of made words ≡ []
taken_by words app made is taken = subst (λ a. fault_of a words ≡ []) is taken

pub takes_alone : (words : List Text) (app : App) (rows : List Row) (limit : ℕ) (set : Bool) → app ≡ alone_app → fault_of app words ≡ [] → rows ≡ matches_of app words
    → IsNumber rows (codes "limit") 1 1000000 limit → IsFlag rows (codes "summary") set → Takes words (Alone limit set)
takes_alone words app rows limit set is taken found number flag =
    let same : rows ≡ matches_of alone_app words = found ∙ ap (λ a. matches_of a words) is in
    record { taken = taken_by words app alone_app is taken; values = (subst (λ r. IsNumber r (codes "limit") 1 1000000 limit) same number, subst (λ r. IsFlag r (codes "summary") set) same flag) }

pub takes_shared : (words : List Text) (app : App) (rows : List Row) (workers limit : ℕ) (set : Bool) → app ≡ shared_app → fault_of app words ≡ [] → rows ≡ matches_of app words
    → IsNumber rows (codes "workers") 1 64 workers → IsNumber rows (codes "limit") 1 1000000 limit → IsFlag rows (codes "summary") set → Takes words (Shared workers limit set)
takes_shared words app rows workers limit set is taken found count number flag =
    let same : rows ≡ matches_of shared_app words = found ∙ ap (λ a. matches_of a words) is in
    record {
      taken = taken_by words app shared_app is taken;
      values = (
        subst (λ r. IsNumber r (codes "workers") 1 64 workers) same count,
        subst (λ r. IsNumber r (codes "limit") 1 1000000 limit) same number,
        subst (λ r. IsFlag r (codes "summary") set) same flag,
      );
    }

pub takes_make : (words : List Text) (app : App) (rows : List Row) (points node prime : ℕ) → app ≡ make_app → fault_of app words ≡ [] → rows ≡ matches_of app words
    → IsNumber rows (codes "points") 0 1000 points → IsNumber rows (codes "node") 0 1000 node → IsNumber rows (codes "prime") 0 1000 prime → Takes words (Make points node prime)
takes_make words app rows points node prime is taken found a b c =
    let same : rows ≡ matches_of make_app words = found ∙ ap (λ a. matches_of a words) is in
    record {
      taken = taken_by words app make_app is taken;
      values = (
        subst (λ r. IsNumber r (codes "points") 0 1000 points) same a,
        subst (λ r. IsNumber r (codes "node") 0 1000 node) same b,
        subst (λ r. IsNumber r (codes "prime") 0 1000 prime) same c,
      );
    }

-- ---- what is refused for an option's value

pub no_number : (words : List Text) (app made : App) (rows : List Row) (name : Text) (low high : ℕ) → app ≡ made → rows ≡ matches_of app words
    → ((n : ℕ) → IsNumber rows name low high n → ⊥) → (n : ℕ) → IsNumber (matches_of made words) name low high n → ⊥
no_number words app made rows name low high is found none n number =
    none n (subst (λ r. IsNumber r name low high n) (sym (found ∙ ap (λ a. matches_of a words) is)) number)

-- a refusal that is passed on
pub passed_refusal : (name : Text) (words : List Text) (r : Result Command WordsFault) (e fault : WordsFault) → r ≡ Err e → e ≡ fault → fault ≡ Refused
    → ((command : Command) → name_of command ≡ name → Takes words command → ⊥) → Reads name words r
passed_refusal name words r e fault is from refused none = subst (Reads name words) (sym (is ∙ ap Err (from ∙ refused))) none

-- words whose second one is no command's name
pub no_name : (words : List Text) (name : Text) → (name ≡ codes "alone" → ⊥) → (name ≡ codes "shared" → ⊥) → (name ≡ codes "show" → ⊥) → (name ≡ codes "check" → ⊥)
    → (name ≡ codes "make" → ⊥) → (command : Command) → name_of command ≡ name → ⊥
no_name words name a s w k m (Alone limit set) e = a (sym e)
no_name words name a s w k m (Shared workers limit set) e = s (sym e)
no_name words name a s w k m Show e = w (sym e)
no_name words name a s w k m Check e = k (sym e)
no_name words name a s w k m (Make points node prime) e = m (sym e)

-- ---- all words

no_empty_name : (command : Command) → name_of command ≡ [] → ⊥
no_empty_name (Alone limit set) e = cc
no_empty_name (Shared workers limit set) e = cc
no_empty_name Show e = cc
no_empty_name Check e = cc
no_empty_name (Make points node prime) e = cc

pub means_from : (words rest : List Text) (program : Text) (command : Command) → words ≡ program ∷ rest → name_of command ≡ head_of rest → Takes rest command → Means words command
means_from words [] program command are name takes = absurd (no_empty_name command name)
means_from words (word ∷ options) program command are name takes = record {
  program = program;
  options = options;
  are = are ∙ ap (λ n. program ∷ n ∷ options) (sym name);
  takes = subst (λ n. Takes (n ∷ options) command) (sym name) takes;
}

pub means_none : (words rest : List Text) (program : Text) → words ≡ program ∷ rest → ((command : Command) → name_of command ≡ head_of rest → Takes rest command → ⊥)
    → (command : Command) → Means words command → ⊥
means_none words rest program are none command means =
    let same : program ∷ rest ≡ means.program ∷ name_of command ∷ means.options = sym are ∙ means.are in
    let rests : rest ≡ name_of command ∷ means.options = ap (drop 1) same in
    none command (ap head_of (sym rests)) (subst (λ ws. Takes ws command) (sym rests) means.takes)

pub means_nothing : (words : List Text) → words ≡ [] → (command : Command) → Means words command → ⊥
means_nothing words none command means = let bad : [] ≡ means.program ∷ name_of command ∷ means.options = sym none ∙ means.are in cc
