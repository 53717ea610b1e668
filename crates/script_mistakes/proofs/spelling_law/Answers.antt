use Rattle.std.proofs.Common.{refl}
use Rattle.script_token.specs.Tokens.{token_of, keyword_of}
use Rattle.script_token.specs.declared.kind.Symbol.TheVariants as symbols
use Rattle.script_mistakes.specs.Words.{AreSpelled}
use Rattle.script_mistakes.proofs.spelling_law.Goals as goal

are_spelled : AreSpelled
unfolding token_of keyword_of
are_spelled symbols.Channel = refl
are_spelled symbols.Process = refl
are_spelled symbols.Let = refl
are_spelled symbols.Print = refl
are_spelled symbols.Sync = refl
are_spelled symbols.If = refl
are_spelled symbols.Else = refl
are_spelled symbols.Loop = refl
are_spelled symbols.Forever = refl
are_spelled symbols.End = refl
are_spelled symbols.Send = refl
are_spelled symbols.Recv = refl
are_spelled symbols.Always = refl
are_spelled symbols.Never = refl
are_spelled symbols.Cancelled = refl
are_spelled symbols.Choose = refl
are_spelled symbols.Wrap = refl
are_spelled symbols.As = refl
are_spelled symbols.To = refl
are_spelled symbols.Guard = refl
are_spelled symbols.Nack = refl
are_spelled symbols.Spawn = refl
are_spelled symbols.Joined = refl
are_spelled symbols.Semicolon = refl
are_spelled symbols.Comma = refl
are_spelled symbols.OpenBrace = refl
are_spelled symbols.CloseBrace = refl
are_spelled symbols.OpenParen = refl
are_spelled symbols.CloseParen = refl
are_spelled symbols.OpenBracket = refl
are_spelled symbols.CloseBracket = refl
are_spelled symbols.Equal = refl
are_spelled symbols.Less = refl
are_spelled symbols.Plus = refl
are_spelled symbols.Minus = refl
are_spelled symbols.Arrow = refl

pub returns : goal.returns
returns c = are_spelled
