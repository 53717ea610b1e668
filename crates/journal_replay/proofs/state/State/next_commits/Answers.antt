use Rattle.std.proofs.Common.{rules}
use Rattle.std.proofs.lemmas.List.Sorted.{Contains-permutation, IsPermutation-sym, answers_always}
use Rattle.protocol_values.specs.Commits.{order_of}
use Rattle.journal_replay.proofs.Nexting.{next_follows}
use Rattle.journal_replay.proofs.Replaying.{reached-room}
use Rattle.journal_replay.proofs.state.State.next_commits.Goals as goal

pub commits-requires-clause-room : goal.commits-requires-clause-room
commits-requires-clause-room c = (reached-room c.args.self.now.threads c.args.self.now.reached).0

pub commits-requires-clause-few : goal.commits-requires-clause-few
commits-requires-clause-few c = (reached-room c.args.self.now.threads c.args.self.now.reached).1

pub returns : goal.returns
returns c = λ ps rows journal stands.
    let all = c.in_ok-all.all.items in
    let sorted = c.sort_by_key.new.self.items in
    let permutation = c.in_ok-sort_by_key.ensures.permutation in
    let each = next_follows ps rows journal all c.args.self.now.threads stands c.in_ok-all.ensures in
    record {
      ordered = c.in_ok-sort_by_key.ensures.sorted order_of (answers_always _ _ _ (λ f a r g h. search rules));
      each = λ d. (
        λ has. (each d).0 (Contains-permutation sorted all d (IsPermutation-sym all sorted permutation) has),
        λ f. Contains-permutation all sorted d permutation ((each d).1 f),
      );
    }
