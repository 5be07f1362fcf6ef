use Rattle.std.proofs.Common.{◌<◌, ◌≤◌, ◌*◌, ◌/◌, ◌%◌, ◌==◌, ◌∙◌, sym, ap, length, get_or, arith, false}
use Rattle.std.specs.Int.{bit_at}
use Rattle.shared_map.proofs.FlagLemmas.{flag_within, get_flag, test_is, word_is}
use Rattle.shared_map.proofs.flags.Flags.is_set.Goals as goal

pub index-requires : goal.index-requires
index-requires c =
    let inside : c.args.at < c.self.inside.count = flag_within c.self.inside.words.items c.self.inside.count c.args.at c.args.self.now c.self.view_is c.requires in
    let room : c.self.inside.count ≤ 64 * length c.self.inside.words.items = c.self.invariant in
    omega arith

pub returns : goal.returns
returns c =
    let inside : c.args.at < c.self.inside.count = flag_within c.self.inside.words.items c.self.inside.count c.args.at c.args.self.now c.self.view_is c.requires in
    let room : c.self.inside.count ≤ 64 * length c.self.inside.words.items = c.self.invariant in
    let within : c.args.at / 64 < length c.self.inside.words.items = omega arith in
    test_is c.has_bit.result (bit_at c.index.result.now (c.args.at % 64)) c.has_bit.ensures
    ∙ ap (λ w. bit_at w (c.args.at % 64) == 1) (word_is c.self.inside.words.items (c.args.at / 64) c.index.result.now c.index.ensures within)
    ∙ sym (get_flag c.self.inside.words.items c.self.inside.count c.args.at false inside)
    ∙ ap (λ l. get_or l c.args.at false) c.self.view_is
