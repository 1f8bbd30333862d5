-- How machines are stored, as values that contracts see.
use Rattle.std.specs.Prelude.{◌≡◌, ℕ, ◌⊎◌, List, Option, Some, None, refl}
use Rattle.std.specs.Coded.{Coded, code_by, coded×, coded⊎, coded_ℕ, coded_list, coded_option}
use Rattle.ve_theory.specs.Answers.{Row}
use Rattle.ve_table.specs.Tables.{ActionTable, table_code}
use Rattle.ve_machine.specs.Forwards.{Forwards}
use Rattle.ve_machine.specs.Seats.{Death, Desk, Job, State, empty_desk, image_job, relator_job, submodule_job, with_job, with_relation}
use Rattle.ve_machine.specs.Hands.{Beginning, Found, Hand, Part, Reading, beginning_hand, empty_hand, forward_found, from_forward, from_id, from_image, none_found, read_forward, read_ids, read_image, row_found, summed_hand, tracing_hand, unread}
use Rattle.ve_machine.specs.Machines.{Machine}
use mathlib.Core.Logic.{inl, inr}

abbrev row_code : Coded Row
row_code = coded_list (coded× coded_ℕ coded_ℕ)

-- jobs and desks

abbrev job_parts : Job → (ℕ × ℕ) ⊎ (ℕ ⊎ (ℕ × ℕ))
job_parts (relator_job b number) = inl (b, number)
job_parts (submodule_job number) = inr (inl number)
job_parts (image_job b x) = inr (inr (b, x))

abbrev job_from : (ℕ × ℕ) ⊎ (ℕ ⊎ (ℕ × ℕ)) → Job
job_from (inl s) = relator_job s.0 s.1
job_from (inr (inl number)) = submodule_job number
job_from (inr (inr s)) = image_job s.0 s.1

pub job_back : (job : Job) → job_from (job_parts job) ≡ job
job_back (relator_job b number) = refl
job_back (submodule_job number) = refl
job_back (image_job b x) = refl

abbrev pub job_code : Coded Job
job_code = code_by ((ℕ × ℕ) ⊎ (ℕ ⊎ (ℕ × ℕ))) (coded⊎ (coded× coded_ℕ coded_ℕ) (coded⊎ coded_ℕ (coded× coded_ℕ coded_ℕ))) job_parts job_from job_back

abbrev desk_parts : Desk → Option (Job ⊎ Row)
desk_parts empty_desk = None
desk_parts (with_job job) = Some (inl job)
desk_parts (with_relation v) = Some (inr v)

abbrev desk_from : Option (Job ⊎ Row) → Desk
desk_from None = empty_desk
desk_from (Some (inl job)) = with_job job
desk_from (Some (inr v)) = with_relation v

pub desk_back : (desk : Desk) → desk_from (desk_parts desk) ≡ desk
desk_back empty_desk = refl
desk_back (with_job job) = refl
desk_back (with_relation v) = refl

abbrev pub desk_code : Coded Desk
desk_code = code_by (Option (Job ⊎ Row)) (coded_option (coded⊎ job_code row_code)) desk_parts desk_from desk_back

abbrev pub death_code : Coded Death
death_code = code_by (ℕ × (ℕ × Row)) (coded× coded_ℕ (coded× coded_ℕ row_code)) (λ d. (d.seat, (d.id, d.forward))) (λ s. record { seat = s.0; id = s.1.0; forward = s.1.1 }) (λ _. refl)

-- the shared machine

abbrev pub state_code : Coded State
state_code =
    code_by
    (ActionTable × (Forwards × (List (List (Option Row)) × (List Job × (List Row × (List Desk × List Death))))))
    (coded× table_code
    (coded× (coded_list (coded_option row_code))
    (coded× (coded_list (coded_list (coded_option row_code)))
    (coded× (coded_list job_code) (coded× (coded_list row_code) (coded× (coded_list desk_code) (coded_list death_code)))))))
    (λ S. (S.opening, (S.forwards, (S.rows, (S.done, (S.queue, (S.desks, S.journal)))))))
    (λ s. record { opening = s.0; forwards = s.1.0; rows = s.1.1.0; done = s.1.1.1.0; queue = s.1.1.1.1.0; desks = s.1.1.1.1.1.0; journal = s.1.1.1.1.1.1 })
    (λ _. refl)

-- hands

abbrev beginning_parts : Beginning → ℕ ⊎ (ℕ ⊎ (ℕ × ℕ))
beginning_parts (from_id b) = inl b
beginning_parts (from_image i) = inr (inl i)
beginning_parts (from_forward b x) = inr (inr (b, x))

abbrev beginning_from : ℕ ⊎ (ℕ ⊎ (ℕ × ℕ)) → Beginning
beginning_from (inl b) = from_id b
beginning_from (inr (inl i)) = from_image i
beginning_from (inr (inr s)) = from_forward s.0 s.1

pub beginning_back : (beginning : Beginning) → beginning_from (beginning_parts beginning) ≡ beginning
beginning_back (from_id b) = refl
beginning_back (from_image i) = refl
beginning_back (from_forward b x) = refl

abbrev part_code : Coded Part
part_code =
    code_by
    ((ℕ ⊎ (ℕ ⊎ (ℕ × ℕ))) × (List ℕ × ℕ))
    (coded× (coded⊎ coded_ℕ (coded⊎ coded_ℕ (coded× coded_ℕ coded_ℕ))) (coded× (coded_list coded_ℕ) coded_ℕ))
    (λ part. (beginning_parts part.beginning, (part.letters, part.coefficient)))
    (λ s. record { beginning = beginning_from s.0; letters = s.1.0; coefficient = s.1.1 })
    (λ part i. record { beginning = beginning_back part.beginning i; letters = part.letters; coefficient = part.coefficient })

abbrev found_parts : Found → Option (Row ⊎ Row)
found_parts none_found = None
found_parts (row_found row) = Some (inl row)
found_parts (forward_found forward) = Some (inr forward)

abbrev found_from : Option (Row ⊎ Row) → Found
found_from None = none_found
found_from (Some (inl row)) = row_found row
found_from (Some (inr forward)) = forward_found forward

pub found_back : (found : Found) → found_from (found_parts found) ≡ found
found_back none_found = refl
found_back (row_found row) = refl
found_back (forward_found forward) = refl

abbrev found_code : Coded Found
found_code = code_by (Option (Row ⊎ Row)) (coded_option (coded⊎ row_code row_code)) found_parts found_from found_back

abbrev reading_parts : Reading → Option (Row ⊎ ((Row × Row) ⊎ List Found))
reading_parts unread = None
reading_parts (read_image image) = Some (inl image)
reading_parts (read_forward row forward) = Some (inr (inl (row, forward)))
reading_parts (read_ids founds) = Some (inr (inr founds))

abbrev reading_from : Option (Row ⊎ ((Row × Row) ⊎ List Found)) → Reading
reading_from None = unread
reading_from (Some (inl image)) = read_image image
reading_from (Some (inr (inl s))) = read_forward s.0 s.1
reading_from (Some (inr (inr founds))) = read_ids founds

pub reading_back : (reading : Reading) → reading_from (reading_parts reading) ≡ reading
reading_back unread = refl
reading_back (read_image image) = refl
reading_back (read_forward row forward) = refl
reading_back (read_ids founds) = refl

abbrev reading_code : Coded Reading
reading_code =
    code_by (Option (Row ⊎ ((Row × Row) ⊎ List Found))) (coded_option (coded⊎ row_code (coded⊎ (coded× row_code row_code) (coded_list found_code)))) reading_parts reading_from reading_back

abbrev ToBegin : Type 0
ToBegin = Row × (Part × (List Part × Reading))

abbrev ToTrace : Type 0
ToTrace = Row × (ℕ × (List Part × (Row × (List ℕ × Reading))))

abbrev hand_parts : Hand → Option (ToBegin ⊎ (ToTrace ⊎ (Row × Reading)))
hand_parts empty_hand = None
hand_parts (beginning_hand sum part parts reading) = Some (inl (sum, (part, (parts, reading))))
hand_parts (tracing_hand sum coefficient parts vector left reading) = Some (inr (inl (sum, (coefficient, (parts, (vector, (left, reading)))))))
hand_parts (summed_hand vector reading) = Some (inr (inr (vector, reading)))

abbrev hand_from : Option (ToBegin ⊎ (ToTrace ⊎ (Row × Reading))) → Hand
hand_from None = empty_hand
hand_from (Some (inl s)) = beginning_hand s.0 s.1.0 s.1.1.0 s.1.1.1
hand_from (Some (inr (inl s))) = tracing_hand s.0 s.1.0 s.1.1.0 s.1.1.1.0 s.1.1.1.1.0 s.1.1.1.1.1
hand_from (Some (inr (inr s))) = summed_hand s.0 s.1

pub hand_back : (hand : Hand) → hand_from (hand_parts hand) ≡ hand
hand_back empty_hand = refl
hand_back (beginning_hand sum part parts reading) = refl
hand_back (tracing_hand sum coefficient parts vector left reading) = refl
hand_back (summed_hand vector reading) = refl

abbrev pub hand_code : Coded Hand
hand_code =
    code_by (Option (ToBegin ⊎ (ToTrace ⊎ (Row × Reading))))
    (coded_option
    (coded⊎ (coded× row_code (coded× part_code (coded× (coded_list part_code) reading_code)))
    (coded⊎ (coded× row_code (coded× coded_ℕ (coded× (coded_list part_code) (coded× row_code (coded× (coded_list coded_ℕ) reading_code))))) (coded× row_code reading_code))))
    hand_parts hand_from hand_back

abbrev pub machine_code : Coded Machine
machine_code = code_by (State × List Hand) (coded× state_code (coded_list hand_code)) (λ M. (M.shared, M.hands)) (λ s. record { shared = s.0; hands = s.1 }) (λ _. refl)
