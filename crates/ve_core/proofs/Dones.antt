-- Done jobs, looked up by keys.
use Rattle.std.proofs.Common.{◌≡◌, ◌-◌, ◌<◌, ◌⊎◌, inl, inr, List, [], ◌∷◌, ◌++◌, Bool, true, false, ◌||◌, if◌then◌else◌, Contains, map, reverse, length, get_or, refl, sym, ap, subst, ◌∙◌, arith}
use Rattle.std.specs.List.{list_any}
use Rattle.std.proofs.lemmas.List.{get_or-reverse, length-reverse, map-append, reverse-append}
use Rattle.indexmap.specs.IndexSet.{insert_key}
use Rattle.indexmap.proofs.CallerLemmas.{Contains-list_any}
use Rattle.ve_theory.proofs.Members.{Contains-cons, Contains-map, Contains-nil}
use Rattle.ve_machine.specs.Seats.{Job, image_job, relator_job, submodule_job}
use Rattle.ve_core.specs.declared.done.Key.{Key}
use Rattle.ve_core.specs.declared.done.Key.TheVariants.{Image, Relator, Sub}
use Rattle.ve_core.specs.Dones.{job_of_key, jobs_of}

-- keys differ where jobs do
abbrev key_back : Job → Key
key_back (relator_job b number) = Relator b number
key_back (submodule_job number) = Sub number
key_back (image_job b x) = Image b x

there_and_back : (key : Key) → key_back (job_of_key key) ≡ key
there_and_back (Relator id number) = refl
there_and_back (Sub number) = refl
there_and_back (Image id letter) = refl

back_again : (keys : List Key) → map key_back (map job_of_key keys) ≡ keys
back_again [] = refl
back_again (key ∷ keys) = λ i. there_and_back key i ∷ back_again keys i

-- an element, seen from the end
reversed_place : {X : Type 0} (xs : List X) (x : X) → Contains (reverse xs) x → Contains xs x
reversed_place xs x found =
    let less : found.0 < length xs = omega (arith, found.1, length-reverse xs) in
    (length xs - 1 - found.0, omega (arith, less), sym (get_or-reverse xs found.0 x less) ∙ found.2)

place_reversed : {X : Type 0} (xs : List X) (x : X) → Contains xs x → Contains (reverse xs) x
place_reversed xs x found =
    let back : length xs - 1 - (length xs - 1 - found.0) ≡ found.0 = omega (arith, found.1) in
    let less : length xs - 1 - found.0 < length xs = omega (arith, found.1) in
    (length xs - 1 - found.0, omega (arith, less, length-reverse xs), get_or-reverse xs (length xs - 1 - found.0) x less ∙ ap (λ k. get_or xs k x) back ∙ found.2)

done_there : (keys : List Key) (key : Key) → Contains keys key → Contains (jobs_of keys) (job_of_key key)
done_there keys key found = place_reversed (map job_of_key keys) (job_of_key key) (Contains-map job_of_key keys key found)

done_back : (keys : List Key) (key : Key) → Contains (jobs_of keys) (job_of_key key) → Contains keys key
done_back keys key found =
    let mapped = Contains-map key_back (map job_of_key keys) (job_of_key key) (reversed_place (map job_of_key keys) (job_of_key key) found) in
    subst (Contains keys) (there_and_back key) (subst (λ ks. Contains ks (key_back (job_of_key key))) (back_again keys) mapped)

or_true : (a b : Bool) → b ≡ true → (a || b) ≡ true
or_true true b is = refl
or_true false b is = is

module _ (eq : Key → Key → Bool) (same : (x y : Key) → eq x y ≡ true → x ≡ y) (own : (x : Key) → eq x x ≡ true) where
  finds_key : (keys : List Key) (key : Key) → Contains keys key → list_any (eq key) keys ≡ true
  finds_key [] key found = absurd (Contains-nil key found)
  finds_key (x ∷ keys) key found = cases (Contains-cons x key keys found) (finds_key keys key)
    where
      cases : (x ≡ key) ⊎ Contains keys key → (Contains keys key → list_any (eq key) keys ≡ true) → (eq key x || list_any (eq key) keys) ≡ true
      cases (inl here) rest = ap (λ b. b || list_any (eq key) keys) (ap (eq key) here ∙ own key)
      cases (inr there) rest = or_true (eq key x) (list_any (eq key) keys) (rest there)

  pub done_found : (keys : List Key) (key : Key) (job : Job) → job_of_key key ≡ job → list_any (eq key) keys ≡ true → Contains (jobs_of keys) job
  done_found keys key job is found = subst (Contains (jobs_of keys)) is (done_there keys key (Contains-list_any eq same keys key found))

  pub found_done : (keys : List Key) (key : Key) (job : Job) → job_of_key key ≡ job → Contains (jobs_of keys) job → list_any (eq key) keys ≡ true
  found_done keys key job is done = finds_key keys key (done_back keys key (subst (Contains (jobs_of keys)) (sym is) done))

  -- a new key goes last, and its job first
  pub added : (keys new : List Key) (key : Key) (job : Job) → job_of_key key ≡ job → (Contains (jobs_of keys) job → ⊥) → new ≡ insert_key eq keys key → jobs_of new ≡ job ∷ jobs_of keys
  added keys new key job is absent grown = ap jobs_of grown ∙ cases (list_any (eq key) keys) (λ there. absent (done_found keys key job is there))
    where
      cases : (there : Bool) → (there ≡ true → ⊥) → jobs_of (if there then keys else keys ++ key ∷ []) ≡ job ∷ jobs_of keys
      cases true none = absurd (none refl)
      cases false none = ap reverse (map-append job_of_key keys (key ∷ [])) ∙ reverse-append (map job_of_key keys) (job_of_key key ∷ []) ∙ ap (λ j. j ∷ jobs_of keys) is
