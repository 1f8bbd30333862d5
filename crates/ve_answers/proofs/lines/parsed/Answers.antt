use Rattle.std.proofs.Common.{◌≡◌, ℕ, ◌<◌, ◌^◌, List, refl, sym, ap, subst, ◌∙◌}
use Rattle.std.specs.Prelude.{Some, None, Result, Ok, Err, decimal}
use Rattle.std.specs.Result.{result_ok}
use Rattle.std.specs.Str.{IsUtf8}
use Rattle.std.proofs.lemmas.Str.{IsUtf8-from_ascii}
use Rattle.std.proofs.lemmas.Fmt.{IsAscii-decimal, parse-decimal}
use Rattle.ve_answers.proofs.lines.parsed.Goals as goal

err_of : {X E : Type 0} (r : Result X E) → result_ok r ≡ None → (e : E) × (r ≡ Err e)
err_of (Ok x) is = absurd (cc)
err_of (Err e) is = (e, refl)

ok_of : {X E : Type 0} (r : Result X E) (x : X) → result_ok r ≡ Some x → r ≡ Ok x
ok_of (Ok y) x is = let same : y ≡ x = cc in ap Ok same
ok_of (Err e) x is = absurd (cc)

written : (n : ℕ) (bs : List ℕ) → n < 2 ^ 64 → bs ≡ decimal n → IsUtf8 bs
written n bs small is = subst IsUtf8 (sym is) (IsUtf8-from_ascii (decimal n) (IsAscii-decimal n small))

pub returns-in_err-ok : goal.returns-in_err-ok
returns-in_err-ok c n small is =
    let failed = err_of c.from_utf8.result (sym c.ok.ensures.value ∙ c.in_err-ok.was) in
    let cases = rw failed.1 at c.from_utf8.ensures.cases in
    absurd (cases.0 (written n c.args.digits.now small is))

pub returns : goal.returns
returns c n small is =
    let text = rw (ok_of c.from_utf8.result c.in_ok-ok.field-0 (sym c.ok.ensures.value ∙ c.in_ok-ok.was)) at c.from_utf8.ensures.cases in
    let parsed : c.parse.result ≡ Ok n = parse-decimal 64 n c.in_ok-ok.field-0.now c.parse.result small small (text.0 ∙ is) c.parse.ensures.value.0 in
    c.ok-2.ensures.value ∙ ap result_ok parsed
