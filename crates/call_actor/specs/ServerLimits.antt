-- How many messages may come to the server.
-- Source: docs/PROFILE.md, "Numbered calls on a board".
use Rattle.std.specs.Prelude.{ℕ, ◌+◌, ◌*◌}
use Rattle.call_actor.specs.declared.rules.ServerRole.{ServerRole}

abbrev pub limit : ServerRole → ℕ
limit c = c.repeat * c.calls + c.clients
