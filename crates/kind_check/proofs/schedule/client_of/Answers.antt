use Rattle.std.proofs.Common.{refl, sym, ap, ◌∙◌, Some, None}
use Rattle.std.specs.Str.{bytes_eq}
use Rattle.kind_rules.specs.Names.{first_place}
use Rattle.kind_rules.specs.Programs.{client_names}
use Rattle.kind_check.proofs.Whose.{turn}
use Rattle.kind_check.proofs.schedule.client_of.Goals as goal

pub returns-in-Some : goal.returns-in-Some
returns-in-Some c = turn (client_names c.args.clients.now) c.args.item.now (Some c.in-Some.client) (sym c.in-Some.is ∙ c.client_number.ensures ∙ ap (λ name. first_place (λ x. bytes_eq x name) (client_names c.args.clients.now)) c.name_of.ensures)

pub returns-in-None : goal.returns-in-None
returns-in-None c = (turn (client_names c.args.clients.now) c.args.item.now None (sym c.in-None.is ∙ c.client_number.ensures ∙ ap (λ name. first_place (λ x. bytes_eq x name) (client_names c.args.clients.now)) c.name_of.ensures), refl)
