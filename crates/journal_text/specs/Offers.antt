-- The text of an offer.
use Rattle.std.specs.Prelude.{ℕ, List, ◌++◌, codes}
use Rattle.protocol_values.specs.declared.Base.{Base}
use Rattle.protocol_values.specs.declared.Base.TheVariants.{Send, Recv, Always, OnNack, OnEnd, Never}
use Rattle.journal_text.specs.Names.{Naming}
use Rattle.journal_text.specs.Texts.{message_text, nack_text}

abbrev pub offer_text : Naming → Base → List ℕ
offer_text names (Send c m) = codes "send " ++ names.channel c ++ codes " " ++ message_text names m
offer_text names (Recv c) = codes "recv " ++ names.channel c
offer_text names (Always m) = codes "always " ++ message_text names m
offer_text names (OnNack n) = codes "cancelled " ++ nack_text names n
offer_text names (OnEnd u) = codes "joined " ++ names.thread u
offer_text names Never = codes "never"
