-- Tables at work: openings, deaths and rewritten rows.
use Rattle.std.proofs.Common.{◌≡◌, ℕ, ◌<◌, inl, inr, nat_eq, Some, None, map, All, refl, sym, ap, subst, ◌∙◌}
use Rattle.std.specs.Prelude.{Option, IsSome}
use Rattle.std.proofs.lemmas.List.Elements.{All-append}
use Rattle.ve_theory.specs.Combinations.{difference, extended}
use Rattle.ve_theory.specs.Answers.{Row}
use Rattle.ve_theory.proofs.Sums.{SameWeights-refl, SameWeights-sym, SameWeights_of, SameWeights-difference, weights_from_Alike, Decides-nat_eq}
use Rattle.ve_table.specs.Tables.{ActionTable, presented, row_at, IsLive}
use Rattle.ve_table.specs.Sound.{IsSound}
use Rattle.ve_table.specs.Changes.{with_forward, with_row}
use Rattle.ve_table.proofs.Entries.{same_some}
use Rattle.ve_table.proofs.Setting.{row_written}
use Rattle.ve_table.proofs.Opening.{nones}
use Rattle.ve_machine.specs.Forwards.{stand_in, IsForwarding, IsRewritten}
use Rattle.ve_machine.specs.Jobs.{IsUnderWay}
use Rattle.ve_machine.specs.Finished.{IsOpening, IsPacked}
use Rattle.ve_machine.proofs.Forwardings.{positive_prime, IsForwarding-alike, nothing_forwarded, forwarded_on, vector_less_stand_ins, stays_forwarding}

pub opening_packed : (O : ActionTable) → IsOpening O → IsPacked O
opening_packed O (inl opened) = subst (All (λ (o : Option Row). o ≡ None)) (sym (ap (λ T. T.forwards) opened)) (nones _)
opening_packed O (inr (old, finished, packed, grows)) =
    subst (All (λ (o : Option Row). o ≡ None)) (sym grows.forwards)
    (All-append (λ (o : Option Row). o ≡ None) old.forwards (map (λ _. None) grows.born) packed (nones grows.born))

pub opening_under_way : (O : ActionTable) → IsSound O → IsUnderWay O O
opening_under_way O sound = record {
  draft = refl;
  level = refl;
  words = refl;
  images = refl;
  sound = sound;
  rows = λ b x u v is also.
      nothing_forwarded (presented O).prime O.forwards u v (positive_prime O sound) (SameWeights_of (same_some u v (sym is ∙ also)));
}

-- the field of a table under way
pub same_prime : (O T : ActionTable) → IsUnderWay O T → (presented T).prime ≡ (presented O).prime
same_prime O T under = ap (λ d. d.presentation.prime) under.draft

pub under_way_positive : (O T : ActionTable) → IsUnderWay O T → 0 < (presented O).prime
under_way_positive O T under = subst (λ p. 0 < p) (same_prime O T under) (positive_prime T under.sound)

pub stays_where_id_dies : (O T : ActionTable) (b : ℕ) (f : Row) → IsUnderWay O T → IsLive T b → IsSound (with_forward T b f) → IsUnderWay O (with_forward T b f)
stays_where_id_dies O T b f under live sound = record {
  draft = under.draft;
  level = under.level;
  words = under.words;
  images = under.images;
  sound = sound;
  rows = λ c x u v is now.
      stays_forwarding (presented O).prime T.forwards b f (under_way_positive O T under) live (difference (presented O).prime u v) (under.rows c x u v is now);
}

-- a row, less the row with its dead ids replaced
rewritten_forwarding : (O T : ActionTable) (row next : Row) → IsUnderWay O T → IsRewritten (presented T).prime T.forwards row next
    → IsForwarding (presented O).prime T.forwards (difference (presented O).prime row next)
rewritten_forwarding O T row next under rewritten =
    let p : ℕ = (presented O).prime in
    let at_prime : IsRewritten p T.forwards row next = subst (λ q. IsRewritten q T.forwards row next) (same_prime O T under) rewritten in
    IsForwarding-alike p T.forwards
    (SameWeights-difference (SameWeights-refl p row) (SameWeights-sym (weights_from_Alike nat_eq Decides-nat_eq p next (extended (stand_in T.forwards) row) at_prime.alike)))
    (vector_less_stand_ins p T.forwards row)

pub stays_where_rewritten : (O T : ActionTable) (b x : ℕ) (row next : Row) → IsUnderWay O T → row_at T b x ≡ Some row → IsRewritten (presented T).prime T.forwards row next
    → IsSound (with_row T b x next) → IsUnderWay O (with_row T b x next)
stays_where_rewritten O T b x row next under row_is rewritten sound = record {
  draft = under.draft;
  level = under.level;
  words = under.words;
  images = under.images;
  sound = sound;
  rows = λ c y u v is now.
      elim (row_written T.rows b x c y next (subst IsSome (sym row_is) refl)) [
        | inl here ↦ subst (λ w. IsForwarding (presented O).prime T.forwards (difference (presented O).prime u w)) (same_some next v (sym here.2 ∙ now))
            (forwarded_on (presented O).prime T.forwards u row next (under_way_positive O T under)
            (under.rows b x u row (ap (λ n. row_at O b n) here.1 ∙ ap (λ n. row_at O n y) here.0 ∙ is) row_is)
            (rewritten_forwarding O T row next under rewritten))
        | inr there ↦ under.rows c y u v is (sym there ∙ now)
      ];
}

-- the rows and forwards of the table under way, and all else of the opening
abbrev pub at_work : ActionTable → ActionTable → ActionTable
at_work O T = record O { forwards = T.forwards; rows = T.rows }

pub at_work_is : (O T : ActionTable) → IsUnderWay O T → T ≡ at_work O T
at_work_is O T under = λ i. record { draft = under.draft i; level = under.level i; words = under.words i; forwards = T.forwards; rows = T.rows; images = under.images i }

pub at_work_sound : (O T : ActionTable) → IsUnderWay O T → IsSound (at_work O T)
at_work_sound O T under = subst IsSound (at_work_is O T under) under.sound
