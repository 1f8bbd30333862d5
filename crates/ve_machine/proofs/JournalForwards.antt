-- Forwards as the journal tells them: what was known with a part of the journal stays known.
use Rattle.std.proofs.Common.{◌≡◌, ◌≢◌, ℕ, ◌+◌, ◌<◌, Some, None, List, [], ◌∷◌, ◌++◌, length, get_or, All, AllPairs, refl, sym, ap, subst, ◌∙◌, append-nil, append_assoc, arith}
use Rattle.std.proofs.Math.ListN.{set}
use Rattle.std.specs.Prelude.{slice_get}
use Rattle.std.proofs.lemmas.List.{get_or_append_left, get_or_at, length-append}
use Rattle.std.proofs.lemmas.List.Elements.{All-head, All-tail}
use Rattle.std.proofs.lemmas.Option.{slice_get-get_or, slice_get_within}
use Rattle.ve_theory.specs.Answers.{Row}
use Rattle.ve_table.specs.Tables.{ActionTable, presented}
use Rattle.ve_machine.specs.Forwards.{Forwards}
use Rattle.ve_machine.specs.Jobs.{HasForward, IsLiveIn}
use Rattle.ve_machine.specs.Seats.{Death, forwards_after}
use Rattle.ve_machine.specs.SharedLaws.{JournalsKeepKnown, KeepsKnown}
use Rattle.ve_machine.proofs.Forwardings.{positive_prime}
use Rattle.ve_machine.proofs.SharedLists.{set_else}
use Rattle.ve_machine.proofs.KeptKnown.{kept_where_id_dies, kept_where_same}

pub forwards_append : (forwards : Forwards) (journal : List Death) (d : Death) → forwards_after forwards (journal ++ d ∷ []) ≡ set (forwards_after forwards journal) d.id (Some d.forward)
unfolding forwards_after
forwards_append forwards [] d = refl
forwards_append forwards (c ∷ journal) d = forwards_append (set forwards c.id (Some c.forward)) journal d

-- an id that didn't die
forwards_else : (forwards : Forwards) (journal : List Death) (b : ℕ) → All (λ (d : Death). d.id ≢ b) journal → slice_get (forwards_after forwards journal) b ≡ slice_get forwards b
unfolding forwards_after
forwards_else forwards [] b all = refl
forwards_else forwards (d ∷ journal) b all =
    forwards_else (set forwards d.id (Some d.forward)) journal b (All-tail (λ (c : Death). c.id ≢ b) d journal all)
    ∙ set_else forwards d.id b (Some d.forward) (λ same. All-head (λ (c : Death). c.id ≢ b) d journal all (sym same))

-- what is kept twice
kept_on : (O : ActionTable) (a b c : Forwards) → KeepsKnown O a b → KeepsKnown O b c → KeepsKnown O a c
kept_on O a b c one other = record {
  dead = λ i f is. other.dead i f (one.dead i f is);
  forwardings = λ v is. other.forwardings v (one.forwardings v is);
  known = λ v is. other.known v (one.known v is);
}

module _ (O : ActionTable) (positive : 0 < (presented O).prime) where
  abbrev AreLiveDeaths : List Death → Type 0
  AreLiveDeaths journal = All (λ (d : Death). IsLiveIn O.forwards d.id) journal

  abbrev AreOnce : List Death → Type 0
  AreOnce journal = AllPairs (λ (c d : Death). c.id ≢ d.id) journal

  at_end : (seen more : List Death) (d x : Death) → get_or (seen ++ d ∷ more) (length seen) x ≡ d
  at_end seen more d x = get_or_at seen d more x (length seen) refl

  -- a death after those that were seen
  live_then : (seen more : List Death) (d : Death) → AreLiveDeaths (seen ++ d ∷ more) → AreOnce (seen ++ d ∷ more) → IsLiveIn (forwards_after O.forwards seen) d.id
  live_then seen more d live once =
      let long : length (seen ++ d ∷ more) ≡ length seen + length (d ∷ more) = length-append seen (d ∷ more) in
      forwards_else O.forwards seen d.id
      (λ k x less.
      subst (λ (c : Death). c.id ≢ d.id) (get_or_append_left seen (d ∷ more) x k less)
      (subst (λ (c : Death). (get_or (seen ++ d ∷ more) k x).id ≢ c.id) (at_end seen more d x) (once k (length seen) x less (omega (arith, long)))))
      ∙ subst (λ (c : Death). IsLiveIn O.forwards c.id) (at_end seen more d d) (live (length seen) d (omega (arith, long)))

  kept_after : (seen more : List Death) → AreLiveDeaths (seen ++ more) → AreOnce (seen ++ more) → KeepsKnown O (forwards_after O.forwards seen) (forwards_after O.forwards (seen ++ more))
  kept_after seen [] live once = subst (λ j. KeepsKnown O (forwards_after O.forwards seen) (forwards_after O.forwards j)) (sym (append-nil seen)) (kept_where_same O (forwards_after O.forwards seen))
  kept_after seen (d ∷ more) live once =
      let on : (seen ++ d ∷ []) ++ more ≡ seen ++ d ∷ more = append_assoc seen (d ∷ []) more in
      kept_on O (forwards_after O.forwards seen) (forwards_after O.forwards (seen ++ d ∷ [])) (forwards_after O.forwards (seen ++ d ∷ more))
      (subst (KeepsKnown O (forwards_after O.forwards seen)) (sym (forwards_append O.forwards seen d))
      (kept_where_id_dies O (forwards_after O.forwards seen) d.id d.forward positive (live_then seen more d live once)))
      (subst (λ j. KeepsKnown O (forwards_after O.forwards (seen ++ d ∷ [])) (forwards_after O.forwards j)) on
      (kept_after (seen ++ d ∷ []) more (subst AreLiveDeaths (sym on) live) (subst AreOnce (sym on) once)))

pub journals_keep_known : JournalsKeepKnown
journals_keep_known S seen more packed sound legal journal =
    subst (KeepsKnown S.opening (forwards_after S.opening.forwards seen)) (ap (forwards_after S.opening.forwards) (sym journal) ∙ sym legal.so_far)
    (kept_after S.opening (positive_prime S.opening sound.opening) seen more (subst (All (λ (d : Death). IsLiveIn S.opening.forwards d.id)) journal live)
    (subst (AllPairs (λ (c d : Death). c.id ≢ d.id)) journal legal.once))
  where
    live_at_opening : (b : ℕ) (f : Row) → HasForward S.forwards b f → IsLiveIn S.opening.forwards b
    live_at_opening b f is =
        let there : b < length S.opening.forwards = omega (arith, slice_get_within S.forwards b (Some f) is, sound.table.one_forward_each, sound.opening.one_forward_each) in
        slice_get-get_or S.opening.forwards b None there ∙ ap Some (packed b None there)

    live : All (λ (d : Death). IsLiveIn S.opening.forwards d.id) S.journal
    live k d less = live_at_opening (get_or S.journal k d).id (get_or S.journal k d).forward (legal.forwards k d less)
