-- Every section that the rules give can be read back: each origin and each assignable global is a number that is not 65535, and there is one
-- use for each global.
use Prim.Native.Nat.{ℕ, ◌≤◌, ◌<◌}
use native.Mathlib.Omega.{arith}
use mathlib.Core.List.{List}
use mathlib.Core.Path.{◌≡◌}
use mathlib.Core.Option.{Option, none, some}
use lib.ListN.{length, get_or}
use Rattle.definitions.specs.Limits.{Limits, Sound}
use Rattle.definitions.specs.Module.{globals, functions, expressions}
use Rattle.definitions.specs.Checks.{fine}
use Rattle.definitions.specs.Origin.{Origin, nowhere, from_expression}
use Rattle.definitions.specs.Summary.{Section, no_section}
use Rattle.definitions.specs.Analyse.{sections}
use Rattle.definitions.proofs.Formed.{Formed}
use Rattle.definitions.proofs.Reading.{OriginBelow, GlobalBelow, EntryNumbered, Readable}
use Rattle.definitions.proofs.Within.{SectionWithin, sections_within}

pub origin_lower : (n k : ℕ) (o : Origin) → n ≤ k → OriginBelow n o → OriginBelow k o
origin_lower n k nowhere h b = tt
origin_lower n k (from_expression e) h b = omega arith

pub global_lower : (n k : ℕ) (g : Option ℕ) → n ≤ k → GlobalBelow n g → GlobalBelow k g
global_lower n k none h b = tt
global_lower n k (some g) h b = omega arith

-- one section
pub record SectionReads (m : List ℕ) (f : ℕ) (y : Section) : Type 0 where
  pub readable : Readable y
  pub a_use_each : length y.summary.uses ≡ globals m
  pub an_entry_each : length y.entries ≡ expressions m f

module _ (L : Limits) (sound : Sound L) (m : List ℕ) (formed : Formed L m) where
  within_reads : (f : ℕ) (y : Section) → SectionWithin L m f y → SectionReads m f y
  unfolding EntryNumbered
  within_reads f y h =
      let a = sound.expressions_have_numbers in
      let b = sound.globals_have_numbers in
      let c = formed.few_globals in
      record {
        readable = record {
          origin_numbered = origin_lower L.expressions 65535 y.summary.origin a h.told.origin_below;
          pairs_global = h.lists_kept.pairs_global;
          entries_numbered = λ x k. (
            origin_lower L.expressions 65535 x.known.origin a (h.each_entry x k).origin_below,
            global_lower (globals m) 65535 x.known.assignable (omega arith) (h.each_entry x k).global_below,
          );
        };
        a_use_each = h.a_use_each;
        an_entry_each = h.an_entry_each;
      }

  -- of the functions that are done so far
  pub sections_read : (n : ℕ) → n ≤ functions m → (d : List Section) → sections L m n ≡ fine d → (f : ℕ) → f < n → SectionReads m f (get_or d f no_section)
  sections_read n h d e f lt = within_reads f (get_or d f no_section) (sections_within L m formed n h d e f lt)
