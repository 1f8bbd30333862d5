use Rattle.std.proofs.Common.{refl, map, codes}
use Rattle.std.specs.Prelude.{string_bytes}
use Rattle.std.proofs.lemmas.Result.{err_from_is_err_and}
use Rattle.clap.specs.Words.{app_of, found_of, rows_of}
use Rattle.ve_words.specs.Meaning.{alone_app, shared_app, make_app}
use Rattle.ve_words.proofs.Commands.{only_alone, only_shared, only_make, takes_alone, takes_shared, takes_make, no_number, passed_refusal}
use Rattle.ve_words.proofs.words.read_shared.Goals as goal

pub returns-in_err-number : goal.returns-in_err-number
returns-in_err-number c =
    let p = err_from_is_err_and c.from_residual-in_err-number.result c.from_residual-in_err-number.ensures.1 in
    passed_refusal (codes "shared") (map string_bytes c.args.words.now) c.from_residual-in_err-number.result p.0 c.in_err-number.field-0.0 p.1 p.2 c.in_err-number.ensures.refused.0
    (only_shared (map string_bytes c.args.words.now) (λ workers limit set h.
    no_number (map string_bytes c.args.words.now) (app_of c.in_ok-shared.field-0) shared_app (rows_of (found_of c.in_ok-matches.matches)) (codes "workers") 1 64
    c.in_ok-shared.ensures c.in_ok-matches.ensures.rows c.in_err-number.ensures.refused.1 _ h.values.0))

pub returns-in_err-number-2 : goal.returns-in_err-number-2
returns-in_err-number-2 c =
    let p = err_from_is_err_and c.from_residual-in_err-number-2.result c.from_residual-in_err-number-2.ensures.1 in
    passed_refusal (codes "shared") (map string_bytes c.args.words.now) c.from_residual-in_err-number-2.result p.0 c.in_err-number-2.field-0.0 p.1 p.2 c.in_err-number-2.ensures.refused.0
    (only_shared (map string_bytes c.args.words.now) (λ workers limit set h.
    no_number (map string_bytes c.args.words.now) (app_of c.in_ok-shared.field-0) shared_app (rows_of (found_of c.in_ok-matches.matches)) (codes "limit") 1 1000000
    c.in_ok-shared.ensures c.in_ok-matches.ensures.rows c.in_err-number-2.ensures.refused.1 _ h.values.1))

pub returns : goal.returns
returns c = (
  refl,
  takes_shared (map string_bytes c.args.words.now) (app_of c.in_ok-shared.field-0) (rows_of (found_of c.in_ok-matches.matches)) c.in_ok-number.field-0 c.in_ok-number-2.field-0
      c.flag.result c.in_ok-shared.ensures c.in_ok-matches.ensures.taken c.in_ok-matches.ensures.rows c.in_ok-number.ensures.given c.in_ok-number-2.ensures.given c.flag.ensures,
)
