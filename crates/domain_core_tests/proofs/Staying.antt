-- A domain of which something is only read goes nowhere.
use Rattle.std.proofs.Common.{List, [], ◌∷◌, refl}
use Rattle.lane_end.specs.SendMoves.{SendMove}
use Rattle.lane_end.specs.ReceiveMoves.{ReceiveMove}
use Rattle.domain_core.specs.AllMoved.{AllMoved}
use Rattle.domain_core.specs.DomainView.{DomainView}
use Rattle.domain_core.specs.Ends.{EndsMoved, EndsMoved-none}
use Rattle.domain_core.specs.Going.{Goes}
use Rattle.domain_core.specs.LaneMoves.{LaneMove}
use Rattle.domain_core.specs.declared.Ends.{Ends}

all-stay : {L : Type 0} (Moved : L → List LaneMove → L → Type 0) → ((e : L) → Moved e [] e) → (es : List L) → (ms : List (List LaneMove)) × AllMoved Moved es ms es
all-stay Moved none [] = ([], tt)
all-stay Moved none (e ∷ es) = let rest = all-stay Moved none es in ([] ∷ rest.0, (none e, rest.1))

pub stays : {S R : Type 0} (Sent : S → List SendMove → S → Type 0) (Received : R → List ReceiveMove → R → Type 0) → ((e : S) → Sent e [] e) → ((e : R) → Received e [] e) → (d : DomainView (Ends S R)) → Goes (EndsMoved Sent Received) d d
stays Sent Received sent received d =
    let all = all-stay (EndsMoved Sent Received) (EndsMoved-none Sent Received sent received) d.ends in
    record { number = refl; moves = all.0; moved = all.1 }
