-- The looks at the frames of a peer that a journal tells: one for each turn, those that showed nothing among them.
-- Source: docs/PROFILE.md, "A turn". The looks at the buffers that came back are board_model's `back_looks`.
use Rattle.std.specs.Prelude.{ℕ, List, [], map}
use Rattle.std.specs.List.{flat_map}
use Rattle.board_model.specs.Journal.{PlainEntry, turned, put, again, waits, called}
use Rattle.board_model.specs.Traffic.{visits_to}

abbrev pub sees_in : ℕ → PlainEntry → List ℕ
sees_in peer (turned visits) = map (λ v. v.see) (visits_to peer visits)
sees_in peer (put to frame) = []
sees_in peer (again word) = []
sees_in peer (waits k) = []
sees_in peer (called k a) = []

abbrev pub see_looks : ℕ → List PlainEntry → List ℕ
see_looks peer entries = flat_map (sees_in peer) entries
