use Rattle.std.proofs.Common.{◌≡◌, ◌<◌, ◌∙◌, ℕ, List, IfSome, ap, get_or, is_some, length, ltb, subst, sym, arith, rules, tests}
use Rattle.journal_text.specs.Labels.{reach}
use Rattle.journal_text.proofs.Blocks.{ends_at}
use Rattle.journal_text.proofs.Chains.{texts_at, within_at}
use Rattle.journal_text.proofs.writing.put_channel.Goals as goal

pub put_name-requires-clause-room : goal.put_name-requires-clause-room
put_name-requires-clause-room c =
    let labels = c.in-Some.labels.now in
    let read : c.in-Some-get.name.now ≡ get_or labels.channels.items c.args.chan c.in-Some-get.name.now = search rules in
    let less : c.args.chan < length labels.channels.items = search (rules, arith, tests) in
    let fits = within_at labels.longest labels.channels.items c.args.chan c.in-Some-get.name.now labels.channels_fit less read in
    (omega (arith, labels.block_fits, ap reach c.in-Some.is), omega (arith, fits, ap length c.as_bytes.ensures.value, ap reach c.in-Some.is), omega arith)

pub returns-in-Some-get-clause-width : goal.returns-in-Some-get-clause-width
returns-in-Some-get-clause-width c =
    let labels = c.in-Some.labels.now in
    let read : c.in-Some-get.name.now ≡ get_or labels.channels.items c.args.chan c.in-Some-get.name.now = search rules in
    let less : c.args.chan < length labels.channels.items = search (rules, arith, tests) in
    let fits = within_at labels.longest labels.channels.items c.args.chan c.in-Some-get.name.now labels.channels_fit less read in
    (omega arith, omega (arith, fits, ap length c.as_bytes.ensures.value, ap reach c.in-Some.is))

pub put_name-requires-clause-ends : goal.put_name-requires-clause-ends
put_name-requires-clause-ends c =
    let labels = c.in-Some.labels.now in
    let found = c.get-block.result in
    let read : c.in-Some-get.name.now ≡ get_or labels.channels.items c.args.chan c.in-Some-get.name.now = search rules in
    let less : c.args.chan < length labels.channels.items = search (rules, arith, tests) in
    ends_at labels.channels.items labels.channel_blocks.items c.args.chan c.as_bytes.result.now found labels.channels_end less (texts_at labels.channels.items c.args.chan c.in-Some-get.name.now less read ∙ sym c.as_bytes.ensures.value)
    (subst (λ (z : List (List ℕ) × ℕ). is_some found ≡ ltb z.1 (length z.0)) (λ i. (c.deref-in-Some-get.ensures.value i, c.from-in-Some-get.ensures i)) c.get-block.ensures.lookup.0)
    (subst (λ (z : List (List ℕ) × ℕ). IfSome found (λ b. b.now ≡ get_or z.0 z.1 b.now)) (λ i. (c.deref-in-Some-get.ensures.value i, c.from-in-Some-get.ensures i)) c.get-block.ensures.lookup.1)
