-- A log owns nothing, so it may go to another thread.
use denote.RattleType.{RattleType}
use denote.Param.Send.{IsSend, owning_send, sendable}
use Rattle.thread.specs.contracts.log.Log.{the_row, the_type}

pub send : (A B : RattleType) → IsSend A → IsSend B → IsSend (the_row A B)
send A B a b = owning_send (the_type A B) (search sendable, tt) (λ d. tt) (λ k x w. tt)
