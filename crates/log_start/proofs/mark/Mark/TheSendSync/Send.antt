-- It owns nothing, so it may go to another thread.
use denote.Param.Send.{IsSend, owning_send, sendable}
use Rattle.log_start.specs.contracts.mark.Mark.{the_row, the_type}

pub send : IsSend the_row
send = owning_send the_type (record {}) (λ d. tt) (λ k x w. tt)
