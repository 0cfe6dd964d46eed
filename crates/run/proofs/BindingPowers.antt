-- W7 holds of every list of calls from the fresh panel: the powers are those of the sheet in force. Assumes nothing.
use mathlib.Core.List.{List}
use Rattle.sheet.proofs.Laws.{every_row_has_one}
use Rattle.sheet.proofs.PowerLaws.{powers_given, powers_refused, ladder_in_force, reads_in_force}
use Rattle.run.specs.Promises.{ops, rules}
use Rattle.run.specs.Call.{Call}
use Rattle.run.specs.Run.{panel_after}
use Rattle.run.specs.Requests.{BindingPowers}
use Rattle.run.proofs.Placed.{sheet_in_force}

pub binding_powers : (cs : List Call) → BindingPowers cs
binding_powers cs =
    record {
      given_to_infix = powers_given (panel_after cs).sheet (ops cs) (rules cs) (sheet_in_force cs);
      refused_else = powers_refused (panel_after cs).sheet (ops cs) (rules cs) (sheet_in_force cs);
      ladder = ladder_in_force (panel_after cs).sheet (ops cs) (rules cs) (sheet_in_force cs);
      parsed = λ row r plain.
          let (t, c, _) = every_row_has_one (panel_after cs).sheet (ops cs) (rules cs) (sheet_in_force cs) row r in
          (t, c, reads_in_force (panel_after cs).sheet (ops cs) (rules cs) (sheet_in_force cs) row plain t c);
    }
