-- `explain::reply::reply_to_sheet`: what the witness answers is written, or its refusal. Assumes nothing.
use Rattle.std.proofs.Common.{refl}
use Rattle.explain.proofs.ReplyWays.{sheet_explained}
use Rattle.explain.proofs.reply.reply_to_sheet.Goals as goal

pub returns-in-Ok : goal.returns-in-Ok
returns-in-Ok c = sheet_explained c.args.n c.args.bytes.now c.in-Ok.ensures refl c.write_reply.ensures

pub returns-in-Err : goal.returns-in-Err
returns-in-Err c = sheet_explained c.args.n c.args.bytes.now c.in-Err.ensures refl c.write_refusal.ensures
