-- What actors of numbered calls are made from, and the roles of their logs.
-- Source: docs/PROFILE.md, "Numbered calls on a board".
use Rattle.std.specs.Prelude.{ℕ}
use Rattle.call_logs.specs.Roles.{Role, client, server}
use Rattle.call_actor.specs.declared.role.CallRole.{CallRole}
use Rattle.call_actor.specs.declared.role.CallRole.TheVariants.{Client, Server}
use Rattle.call_actor.specs.declared.rules.ServerRole.{ServerRole}
use Rattle.call_actor.specs.ClientSteps.{ClientRole}

abbrev pub client_role : ClientRole → CallRole
client_role c = Client c.domain c.repeat c.calls

abbrev pub server_role : ServerRole → CallRole
server_role c = Server c.clients c.repeat c.calls

-- the role whose lines are due
abbrev pub plain_role : CallRole → Role
plain_role (Client domain repeat calls) = client domain repeat calls
plain_role (Server clients repeat calls) = server clients repeat calls

abbrev pub domain_of_role : CallRole → ℕ
domain_of_role (Client domain repeat calls) = domain
domain_of_role (Server clients repeat calls) = 0
