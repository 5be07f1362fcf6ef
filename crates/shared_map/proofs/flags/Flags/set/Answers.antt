use Rattle.std.proofs.Common.{◌≡◌, ◌<◌, ◌≤◌, ◌*◌, ◌/◌, ◌∙◌, ap, length, get_or, arith, true}
use lib.ListN.{set}
use Rattle.std.specs.Int.{bit_at}
use Rattle.shared_map.proofs.FlagLemmas.{flag_within, set_flag, word_is}
use Rattle.shared_map.proofs.flags.Flags.set.Goals as goal

pub index-requires : goal.index-requires
index-requires c =
    let inside : c.args.at < c.self.inside.count = flag_within c.self.inside.words.items c.self.inside.count c.args.at c.args.self.now c.self.view_is c.requires in
    let room : c.self.inside.count ≤ 64 * length c.self.inside.words.items = c.self.invariant in
    omega arith

pub index_mut-requires : goal.index_mut-requires
index_mut-requires c =
    let inside : c.args.at < c.self.inside.count = flag_within c.self.inside.words.items c.self.inside.count c.args.at c.args.self.now c.self.view_is c.requires in
    let room : c.self.inside.count ≤ 64 * length c.self.inside.words.items = c.self.invariant in
    omega arith

pub returns : goal.returns
returns c =
    let words = c.self.inside.words.items in
    let inside : c.args.at < c.self.inside.count = flag_within words c.self.inside.count c.args.at c.args.self.now c.self.view_is c.requires in
    let room : c.self.inside.count ≤ 64 * length words = c.self.invariant in
    let within : c.args.at / 64 < length words = omega arith in
    let word : c.index.result.now ≡ get_or words (c.args.at / 64) 0 = word_is words (c.args.at / 64) c.index.result.now c.index.ensures within in
    set_flag words c.self.inside.count c.args.at c.with_bit-word.result inside within c.with_bit-word.ensures.set (λ i apart. c.with_bit-word.ensures.others i apart ∙ ap (λ w. bit_at w i) word)
    ∙ ap (λ l. set l c.args.at true) c.self.view_is
