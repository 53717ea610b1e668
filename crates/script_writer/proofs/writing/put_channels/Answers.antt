use Rattle.std.proofs.Common.{ℕ, List, [], ◌∷◌, ◌++◌, codes, ◌∙◌, sym, ap}
use Rattle.std.specs.String.{string_bytes}
use Rattle.script.specs.Scripts.{script_of}
use Rattle.script_writer.proofs.Lists.{channels_more}
use Rattle.script_writer.proofs.writing.put_channels.Goals as goal

pub loop-channel-preserved : goal.loop-channel-preserved
loop-channel-preserved c =
    let name = c.channel_name.result.now in
    let more = channels_more (script_of c.args.script.now).channels c.loop-channel.channel name (string_bytes c.args.out.now) c.channel_name.ensures in
    let word = c.in_ok-push_str.ensures in
    let named = c.in_ok-push_str-2.ensures in
    let end = c.in_ok-push_str-3.ensures in
    end.bytes ∙ ap (λ (y : List ℕ). y ++ 32 ∷ 59 ∷ 10 ∷ []) (named.bytes ∙ ap (λ (y : List ℕ). y ++ name) (word.bytes ∙ ap (λ (y : List ℕ). y ++ codes "channel ") c.loop-channel.invariant)) ∙ sym more
