-- Tables of which a row or an image is resolved, and then another one.
use Rattle.std.proofs.Common.{◌≡◌, ◌≢◌, ℕ, ◌+◌, ◌<◌, ◌≤◌, ◌⊎◌, inl, inr, Some, None, List, [], length, get_or, refl, sym, ap, subst, ◌∙◌, arith, below_more, get_or-set_other, get_or-set_same}
use Rattle.std.specs.Prelude.{Option, IsSome, slice_get, set}
use Rattle.std.proofs.lemmas.Bool.{cases_lt, cases_eq}
use Rattle.std.proofs.lemmas.List.{get_or_past, length-set}
use Rattle.std.proofs.lemmas.Option.{slice_get_within, slice_get-get_or, get_or_from_slice_get}
use Rattle.ve_theory.specs.Words.{Word, generator}
use Rattle.ve_theory.specs.Presentations.{letter_count, reach, step}
use Rattle.ve_theory.specs.Answers.{Row}
use Rattle.ve_pres.specs.Drafts.{Draft}
use Rattle.ve_table.specs.Tables.{ActionTable, presented, word_at, row_at, IsLive, IsDue}
use Rattle.ve_table.specs.Sound.{IsSound, HasLiveIds}
use Rattle.ve_table.specs.Changes.{with_row, with_image}
use Rattle.ve_machine.specs.Forwards.{Forwards, IsResolved}
use Rattle.ve_machine.specs.Laws.{ForwardingsAreASpace}
use Rattle.ve_pack.specs.Packing.{IsPartlyResolved}
use Rattle.ve_pack.specs.LiveVectors.{HasLiveRow, HasLiveImage}
use Rattle.ve_pack.proofs.Resolved.{IsKeptOrResolved, kept_or_resolved_again}

pub nothing_resolved : (T : ActionTable) → IsPartlyResolved T T
nothing_resolved T = record {
  draft = refl;
  level = refl;
  words = refl;
  forwards = refl;
  rows = λ b x v live found. (v, found, inl refl);
  images = λ i v found. (v, found, inl refl);
}

-- one list of forwards and one draft
carried : (S T : ActionTable) → IsPartlyResolved S T → (v w : Row) → IsKeptOrResolved (presented T).prime T.forwards v w → IsKeptOrResolved (presented S).prime S.forwards v w
carried S T part v w kept =
    subst (λ d. IsKeptOrResolved d.presentation.prime S.forwards v w) part.draft
    (subst (λ (f : Forwards). IsKeptOrResolved (presented T).prime f v w) part.forwards kept)

pub resolved_further : (S T U : ActionTable) → ForwardingsAreASpace → 0 < (presented S).prime → IsPartlyResolved S T → IsPartlyResolved T U → IsPartlyResolved S U
resolved_further S T U space positive one other = record {
  draft = other.draft ∙ one.draft;
  level = other.level ∙ one.level;
  words = other.words ∙ one.words;
  forwards = other.forwards ∙ one.forwards;
  rows = λ b x v live found.
      let first = one.rows b x v live found in
      let second = other.rows b x first.0 (subst (λ f. slice_get f b ≡ Some None) (sym one.forwards) live) first.1 in
      (second.0, second.1, again v first.0 second.0 first.2 second.2);
  images = λ i v found.
      let first = one.images i v found in
      let second = other.images i first.0 first.1 in
      (second.0, second.1, again v first.0 second.0 first.2 second.2);
}
  where
    again : (u v w : Row) → IsKeptOrResolved (presented S).prime S.forwards u v → IsKeptOrResolved (presented T).prime T.forwards v w → IsKeptOrResolved (presented S).prime S.forwards u w
    again u v w first second = kept_or_resolved_again space (presented S).prime S.forwards positive u v w first (carried S T one v w second)

-- a row takes another one's place

no_row : {X : Type 0} (v : Row) → None ≡ Some v → X
no_row v bad = absurd (let b : None ≡ Some v = bad in cc)

has_place : (T : ActionTable) (b x : ℕ) (v : Row) → row_at T b x ≡ Some v → (b < length T.rows) × (x < length (get_or T.rows b []))
has_place T b x v found = cases (cases_lt b (length T.rows)) (cases_lt x (length (get_or T.rows b [])))
  where
    cases : (b < length T.rows) ⊎ (length T.rows ≤ b) → (x < length (get_or T.rows b [])) ⊎ (length (get_or T.rows b []) ≤ x) → (b < length T.rows) × (x < length (get_or T.rows b []))
    cases (inl id) (inl letter) = (id, letter)
    cases (inr past) letter = no_row v (sym (ap (λ l. get_or l x None) (get_or_past T.rows b [] past)) ∙ found)
    cases (inl id) (inr past) = no_row v (sym (get_or_past (get_or T.rows b []) x None past) ∙ found)

module _ (T : ActionTable) (b x : ℕ) (v w : Row) (found : row_at T b x ≡ Some v) where
  pub row_set_here : row_at (with_row T b x w) b x ≡ Some w
  row_set_here =
      let place = has_place T b x v found in
      ap (λ l. get_or l x None) (get_or-set_same T.rows b (set (get_or T.rows b []) x (Some w)) [] place.0)
      ∙ get_or-set_same (get_or T.rows b []) x (Some w) None place.1

  pub row_set_else : (c y : ℕ) → (c ≡ b → y ≡ x → ⊥) → row_at (with_row T b x w) c y ≡ row_at T c y
  row_set_else c y other = cases (cases_eq c b) (cases_eq y x)
    where
      cases : (c ≡ b) ⊎ (c ≢ b) → (y ≡ x) ⊎ (y ≢ x) → row_at (with_row T b x w) c y ≡ row_at T c y
      cases (inr apart) letter = ap (λ l. get_or l y None) (get_or-set_other T.rows b c (set (get_or T.rows b []) x (Some w)) [] apart)
      cases (inl same) (inl letter) = absurd (other same letter)
      cases (inl same) (inr apart) =
          ap (λ n. row_at (with_row T b x w) n y) same
          ∙ ap (λ l. get_or l y None) (get_or-set_same T.rows b (set (get_or T.rows b []) x (Some w)) [] (has_place T b x v found).0)
          ∙ get_or-set_other (get_or T.rows b []) x y (Some w) None apart ∙ ap (λ n. row_at T n y) (sym same)

  pub row_resolved : IsResolved (presented T).prime T.forwards v w → IsPartlyResolved T (with_row T b x w)
  row_resolved resolved = record {
    draft = refl;
    level = refl;
    words = refl;
    forwards = refl;
    rows = λ c y u live there. cases c y u there (cases_eq c b) (cases_eq y x);
    images = λ i u there. (u, there, inl refl);
  }
    where
      cases : (c y : ℕ) (u : Row) → row_at T c y ≡ Some u → (c ≡ b) ⊎ (c ≢ b) → (y ≡ x) ⊎ (y ≢ x)
          → (n : Row) × (row_at (with_row T b x w) c y ≡ Some n) × IsKeptOrResolved (presented T).prime T.forwards u n
      cases c y u there (inl id) (inl letter) =
          let same : v ≡ u = let e : Some v ≡ Some u = sym found ∙ ap (λ n. row_at T n x) (sym id) ∙ ap (row_at T c) (sym letter) ∙ there in cc in
          (w, ap (λ n. row_at (with_row T b x w) n y) id ∙ ap (row_at (with_row T b x w) b) letter ∙ row_set_here, inr (subst (λ n. IsResolved (presented T).prime T.forwards n w) same resolved))
      cases c y u there (inr apart) letter = (u, row_set_else c y (λ same also. apart same) ∙ there, inl refl)
      cases c y u there (inl id) (inr apart) = (u, row_set_else c y (λ same also. apart also) ∙ there, inl refl)

-- and so an image
module _ (T : ActionTable) (i : ℕ) (v w : Row) (found : slice_get T.images i ≡ Some v) where
  pub image_set_here : slice_get (with_image T i w).images i ≡ Some w
  image_set_here =
      let within = slice_get_within T.images i v found in
      slice_get-get_or (set T.images i w) i w (omega (arith, within, length-set T.images i w)) ∙ ap Some (get_or-set_same T.images i w w within)

  pub image_resolved : IsResolved (presented T).prime T.forwards v w → IsPartlyResolved T (with_image T i w)
  image_resolved resolved = record {
    draft = refl;
    level = refl;
    words = refl;
    forwards = refl;
    rows = λ c y u live there. (u, there, inl refl);
    images = λ j u there. cases j u there (cases_eq j i);
  }
    where
      cases : (j : ℕ) (u : Row) → slice_get T.images j ≡ Some u → (j ≡ i) ⊎ (j ≢ i)
          → (n : Row) × (slice_get (with_image T i w).images j ≡ Some n) × IsKeptOrResolved (presented T).prime T.forwards u n
      cases j u there (inl here) =
          let same : v ≡ u = let e : Some v ≡ Some u = sym found ∙ ap (slice_get T.images) (sym here) ∙ there in cc in
          (w, ap (slice_get (with_image T i w).images) here ∙ image_set_here, inr (subst (λ n. IsResolved (presented T).prime T.forwards n w) same resolved))
      cases j u there (inr apart) =
          let within = slice_get_within T.images j u there in (
            u,
            slice_get-get_or (set T.images i w) j u (omega (arith, within, length-set T.images i w))
                ∙ ap Some (get_or-set_other T.images i j w u apart ∙ get_or_from_slice_get T.images j u u there),
            inl refl,
          )

-- what names live ids alone stays so

module _ (T U : ActionTable) (sound : IsSound T) (also : IsSound U) (part : IsPartlyResolved T U) where
  pub still_live : (b : ℕ) → IsLive U b → IsLive T b
  still_live b live = subst (λ f. slice_get f b ≡ Some None) part.forwards live

  pub live_as_before : (b : ℕ) → IsLive T b → IsLive U b
  live_as_before b live = subst (λ f. slice_get f b ≡ Some None) (sym part.forwards) live

  live_vector : (v w : Row) → HasLiveIds T v → IsKeptOrResolved (presented T).prime T.forwards v w → HasLiveIds U w
  live_vector v w live kept = λ k d lt. live_as_before (get_or w k d).0 (old kept k d lt)
    where
      old : IsKeptOrResolved (presented T).prime T.forwards v w → HasLiveIds T w
      old (inl same) = subst (HasLiveIds T) (sym same) live
      old (inr resolved) = resolved.live

  due_before : (b x : ℕ) → IsDue U b x → IsDue T b x
  due_before b x due =
      subst (λ (ws : List Word). (b < length ws) × (x < letter_count (presented T)) × (reach (presented T) (get_or ws b (generator 0)) + step (presented T) x ≤ T.level)) part.words
      (subst (λ k. (b < length U.words) × (x < letter_count (presented T)) × (reach (presented T) (word_at U b) + step (presented T) x ≤ k)) part.level
      (subst (λ (d : Draft). (b < length U.words) × (x < letter_count d.presentation) × (reach d.presentation (word_at U b) + step d.presentation x ≤ U.level)) part.draft due))

  pub row_stays_live : (b x : ℕ) → IsLive T b → HasLiveRow T b x → HasLiveRow U b x
  row_stays_live b x live row v found =
      let there : IsSome (row_at U b x) = subst IsSome (sym found) refl in
      cases (row_at T b x) refl ((sound.due b x).1 (due_before b x ((also.due b x).0 there)))
    where
      cases : (o : Option Row) → row_at T b x ≡ o → IsSome o → HasLiveIds U v
      cases None is some = absurd cc
      cases (Some u) is some =
          let next = part.rows b x u live is in
          let same : next.0 ≡ v = let e : Some next.0 ≡ Some v = sym next.1 ∙ found in cc in
          subst (HasLiveIds U) same (live_vector u next.0 (row u is) next.2)

  pub image_stays_live : (i : ℕ) → HasLiveImage T i → HasLiveImage U i
  image_stays_live i image v found =
      let within : i < length T.images = omega (arith, slice_get_within U.images i v found, sound.one_image_each, also.one_image_each, ap (λ (d : Draft). d.presentation.generators) part.draft) in
      let is = slice_get-get_or T.images i v within in
      let next = part.images i (get_or T.images i v) is in
      let same : next.0 ≡ v = let e : Some next.0 ≡ Some v = sym next.1 ∙ found in cc in
      subst (HasLiveIds U) same (live_vector (get_or T.images i v) next.0 (image (get_or T.images i v) is) next.2)

  -- for the ids below one, and then for that one too
  pub rows_stay_live : (id : ℕ) → ((b : ℕ) → b < id → IsLive T b → (x : ℕ) → HasLiveRow T b x) → (IsLive U id → (x : ℕ) → HasLiveRow U id x)
      → (b : ℕ) → b < id + 1 → IsLive U b → (x : ℕ) → HasLiveRow U b x
  rows_stay_live id before here =
      below_more (λ b. IsLive U b → (x : ℕ) → HasLiveRow U b x) id
      (λ b less live x. row_stays_live b x (still_live b live) (before b less (still_live b live) x)) here
