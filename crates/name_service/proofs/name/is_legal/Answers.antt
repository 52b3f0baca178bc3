use Rattle.std.proofs.Common.{◌≡◌, true, length, rules, tests}
use Rattle.std.specs.Prelude.{nat_lt}
use Rattle.std.specs.List.{list_all}
use Rattle.std.proofs.lemmas.Iterator.{YieldsList-from_slice}
use Rattle.std.proofs.lemmas.Iterator.Search.{all_from_yields_List}
use Rattle.mc_base.specs.Announcement.{is_printable}
use Rattle.name_service.proofs.name.is_legal.Goals as goal

pub returns-then-not-is_empty : goal.returns-then-not-is_empty
returns-then-not-is_empty c =
    let name = c.args.name.now in
    let printable : c.all.result ≡ list_all is_printable name = all_from_yields_List is_printable _ _ _ c.all.ensures.ran (YieldsList-from_slice name cc) (λ x b q k. search (rules, tests)) in
    let some : nat_lt 0 (length name) ≡ true = search (rules, tests) in
    rw some printable
