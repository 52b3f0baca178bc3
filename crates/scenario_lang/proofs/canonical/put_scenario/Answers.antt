use Rattle.outer_io.proofs.Writing.{puts_then}
use Rattle.scenario_lang.proofs.canonical.put_scenario.Goals as goal

pub returns : goal.returns
returns g c =
    let domains = rw c.as_slice.ensures at c.put_domains.ensures in
    let links = rw c.as_slice-2.ensures at c.put_links.ensures in
    let calls = rw c.as_slice-3.ensures at c.put_calls.ensures in
    puts_then _ _ _ _ _ _ domains (puts_then _ _ _ _ _ _ links calls)
