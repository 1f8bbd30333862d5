use Rattle.std.proofs.Common.{◌≡◌, ◌++◌, ◌∷◌, [], Contains, string_bytes, map, arith, refl}
use Rattle.indexmap.specs.IndexSet.{insert_key}
use Rattle.std.specs.String.{string_eq}
use Rattle.ve_word.proofs.Places.{map-insert_key, AreLetterNames-push}
use Rattle.ve_word.proofs.names.Names.add.Goals as goal

new_name : (c : goal.In_ok-insert) → ¬ Contains c.args.self.now c.args.name.now
new_name c = c.in_default.ensures.absent.0 refl

listed : (c : goal.In_ok-insert) → map string_bytes c.insert.new.self.keys ≡ c.args.self.now ++ c.args.name.now ∷ []
listed c =
    let keys : c.insert.new.self.keys ≡ insert_key string_eq c.self.inside.list.keys c.in_ok-from_str.field-0 =
    c.in_ok-insert.ensures.keys in
    rw keys (map-insert_key string_bytes _ _ _ _ c.self.view_is c.in_ok-from_str.ensures.ok (new_name c))

pub invariant_of-self-2 : goal.invariant_of-self-2
invariant_of-self-2 c =
    rw (listed c)
    (AreLetterNames-push _ _ c.count-letter.ensures.names c.requires (grind arith) (new_name c) (grind arith))

pub returns-clause-ok : goal.returns-clause-ok
returns-clause-ok c = listed c
