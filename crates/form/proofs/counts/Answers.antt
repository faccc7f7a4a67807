-- `form::counts`: the checks that it has passed, and the one that refuses.
use Prim.Native.Nat.{◌+◌}
use Rattle.definitions.specs.Form as checks
use Rattle.definitions.specs.Module as file
use Rattle.form_records.proofs.CheckLists.{pass, stop, pass_last}
use Rattle.form.proofs.HeaderChecks.{over_is}
use Rattle.form.specs.Groups.{counts_form}
use borrow.Author.Tests.{lt-ltb, le-ltb}
use lib.ListN.{length}
use mathlib.Core.Path.{refl, sym, ◌∙◌}
use native.Mathlib.Omega.{arith}
use Rattle.form.proofs.counts.Goals as goal

pub returns-then-over_globals : goal.returns-then-over_globals
unfolding counts_form checks.module_counts
returns-then-over_globals c = sym (stop _ _ _ (over_is _ _ _ _ _ c.over_globals.ensures c.globals-globals.ensures c.if-over_globals.true))

pub returns-then-over_functions : goal.returns-then-over_functions
unfolding counts_form checks.module_counts
returns-then-over_functions c = sym (pass _ _ _ (over_is _ _ _ _ _ c.over_globals.ensures c.globals-globals.ensures c.if-over_globals.false)
    ∙ stop _ _ _ (over_is _ _ _ _ _ c.over_functions.ensures c.functions.ensures c.if-over_functions.true))

pub returns-then-m-from : goal.returns-then-m-from
unfolding counts_form checks.module_counts checks.space_bytes
returns-then-m-from c = sym (pass _ _ _ (over_is _ _ _ _ _ c.over_globals.ensures c.globals-globals.ensures c.if-over_globals.false)
    ∙ (pass _ _ _ (over_is _ _ _ _ _ c.over_functions.ensures c.functions.ensures c.if-over_functions.false)
    ∙ stop _ _ _ (lt-ltb (length c.args.m.now) (10 + file.globals c.args.m.now) (omega (arith, c.from.ensures, c.globals-globals.ensures, c.if-m-from.true)))))

pub returns-then-capabilities : goal.returns-then-capabilities
unfolding counts_form checks.module_counts checks.space_bytes checks.capability_code
returns-then-capabilities c = sym (pass _ _ _ (over_is _ _ _ _ _ c.over_globals.ensures c.globals-globals.ensures c.if-over_globals.false)
    ∙ (pass _ _ _ (over_is _ _ _ _ _ c.over_functions.ensures c.functions.ensures c.if-over_functions.false)
    ∙ (pass _ _ _ (le-ltb (length c.args.m.now) (10 + file.globals c.args.m.now) (omega (arith, c.from.ensures, c.globals-globals.ensures, c.if-m-from.false)))
    ∙ stop _ _ _ (over_is _ _ _ _ _ refl c.capabilities.ensures (lt-ltb _ _ c.if-capabilities.true)))))

pub returns : goal.returns
unfolding counts_form checks.module_counts checks.space_bytes checks.capability_code
returns c = sym (pass _ _ _ (over_is _ _ _ _ _ c.over_globals.ensures c.globals-globals.ensures c.if-over_globals.false)
    ∙ (pass _ _ _ (over_is _ _ _ _ _ c.over_functions.ensures c.functions.ensures c.if-over_functions.false)
    ∙ (pass _ _ _ (le-ltb (length c.args.m.now) (10 + file.globals c.args.m.now) (omega (arith, c.from.ensures, c.globals-globals.ensures, c.if-m-from.false)))
    ∙ pass_last _ _ (over_is _ _ _ _ _ refl c.capabilities.ensures (le-ltb _ _ c.if-capabilities.false)))))
