use Rattle.std.proofs.Common.{◌∙◌, List, refl, ap}
use Rattle.std.specs.Map.{lookup}
use Rattle.std.specs.Str.{bytes_eq}
use Rattle.board_model.specs.Scenario.{Neighbour}
use Rattle.board_model.specs.State.{opening}
use Rattle.board_runner.proofs.LinkLemmas.{line-lawful, links-are, links-open, neighbours-opened}
use Rattle.board_runner.proofs.opening.open_station.Goals as goal

pub open-requires : goal.open-requires
open-requires c =
    let s = c.args._scenario.now in
    let d = c.args.line in
    let lawful = line-lawful s c.requires.board d c.requires.line in
    record {
      number = lawful.domain_fits;
      some_nodes = lawful.some_nodes;
      nodes = lawful.nodes_fit;
      some_pool = lawful.some_pool;
      pool = lawful.pool_fits;
      peers = links-are s d c.args.links.items c.requires.links c.requires.board c.requires.line;
      «open» = links-open s d c.args.links.items c.requires.links c.requires.board c.requires.line;
    }

pub returns : goal.returns
returns c =
    let d = c.args.line in
    record {
      on = c.requires.links;
      state = c.in_ok-domain.ensures.state ∙ ap (λ (ns : List Neighbour). opening d.domain d.nodes ns) (neighbours-opened c.args._scenario.now c.requires.board d c.args.links.items c.requires.links);
      ends = c.in_ok-domain.ensures.ends;
      requests = c.in_ok-domain.ensures.ids;
      packets = c.in_ok-domain.ensures.packets;
      told = c.in_ok-journal.ensures.lines;
      number = refl;
      labels = λ label. ap (lookup (λ k. bytes_eq label k.items)) c.new-2.ensures.empty;
      packet_labels = λ label. ap (lookup (λ k. bytes_eq label k.items)) c.new-3.ensures.empty;
      dropped = refl;
      domain_number = refl;
    }
