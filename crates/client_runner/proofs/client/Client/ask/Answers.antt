use Rattle.std.proofs.Common.{sym, ap, ◌∙◌, subst}
use Rattle.cloud_base.specs.Events.{answers_in}
use Rattle.cloud_base.specs.Shaped.{IsShapedQuery}
use Rattle.cloud_base.specs.declared.schema.Schema.{Schema}
use Rattle.cloud_base.specs.declared.update.Event.TheVariants.{Ask}
use Rattle.plain_vm.specs.Code.{CodeOf}
use Rattle.client_runner.specs.Steps.{did}
use Rattle.client_runner.proofs.Doing.{adds_note}
use Rattle.client_runner.proofs.Needing.{answer_shaped, stands_asked}
use Rattle.client_runner.proofs.client.Client.ask.Goals as goal

pub answer-requires : goal.answer-requires
answer-requires c =
    let s = c.args.self.now.session.stands in
    let due = c.requires.due in
    record {
      query = c.args.query;
      client = s.client;
      answers = answers_in (did s);
      events = did s;
      waits = due.needed;
      shaped = answer_shaped c.args.self.now.machine.code.now.schema s c.args.query c.in_ok-answer.answer c.keeps.ensures.running due.schema
          (subst (λ (x : Schema). IsShapedQuery x c.args.query) due.schema due.shaped) c.in_ok-answer.ensures.answer;
    }

pub returns-clause-follows : goal.returns-clause-follows
returns-clause-follows c =
    let s = c.args.self.now.session.stands in
    let due = c.requires.due in
    let a = c.in_ok-answer.answer in
    let adds = adds_note s.flush (Ask c.args.query a) s c.ask.new.self.stands c.keeps.ensures.running c.in_ok-answer.ensures.ok in
    let fits = answer_shaped c.args.self.now.machine.code.now.schema s c.args.query a c.keeps.ensures.running due.schema
    (subst (λ (x : Schema). IsShapedQuery x c.args.query) due.schema due.shaped) c.in_ok-answer.ensures.answer in
    record {
      schema = ap (λ (x : CodeOf). x.schema) c.answer.ensures.code ∙ due.schema ∙ sym adds.schema;
      stands = stands_asked c.answer.new.self c.args.query a s c.ask.new.self.stands adds
          (c.answer.ensures.stands c.args.query s.client (answers_in (did s)) (did s) due.needed fits);
    }
