-- Lists of names that are the same.
use Rattle.std.proofs.Common.{◌≡◌, ℕ, ◌<◌, List, [], length, slice_get, unwrap_or, sym, ap, ◌∙◌}
use Rattle.std.proofs.lemmas.List.{ext_get_or}
use Rattle.std.proofs.lemmas.Option.{unwrap_or-slice_get}

-- as many names, and at each place the same one
pub same_names : (names others : List (List ℕ)) → length names ≡ length others → ((k : ℕ) → k < length names → slice_get names k ≡ slice_get others k) → names ≡ others
same_names names others count same =
    ext_get_or [] names others count
    (λ k within. sym (unwrap_or-slice_get names k []) ∙ (ap (λ o. unwrap_or o []) (same k within) ∙ unwrap_or-slice_get others k []))
