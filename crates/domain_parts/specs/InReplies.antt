-- What the replies that are owed to a peer keep.
-- Source: the code of the replies.
use Rattle.std.specs.Prelude.{◌≤◌, ◌<◌}
use Rattle.std.specs.List.{AllByRecursion}
use Rattle.std.specs.VecDeque.{deque_capacity}
use Rattle.mc_base.specs.Limits.{reply_limit}
use Rattle.domain_parts.specs.declared.replies.Replies.TheInside.{Inside}

-- there is room for the most that are ever owed, and each is of a channel that has a number
pub record AreLawful (r : Inside) : Type 0 where
  pub room : reply_limit ≤ deque_capacity r.owed
  pub numbered : AllByRecursion (λ x. 0 < x.channel) r.owed.items
