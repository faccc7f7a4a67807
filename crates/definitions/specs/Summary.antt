-- 01, 6.2 and 6.3: what is known of a function that is done. A section of the report (7.2) says this and nothing else.
use Rattle.std.specs.Prelude.{ℕ, List, [], Bool, false, get_or}
use Rattle.definitions.specs.Origin.{Origin, nowhere}
use Rattle.definitions.specs.Pairs.{Lists, no_pairs}
use Rattle.definitions.specs.State.{Known}

-- 6.2 Summary, with 6.3's uses and lists: what a function's callers see of it
pub record Summary : Type 0 where
  pub origin : Origin
  pub requirements : ℕ
  pub may_kill : Bool
  pub uses : List ℕ
  pub lists : Lists

-- 3.1 what is known of an expression, with its reference count
pub record Entry : Type 0 where
  pub known : Known
  pub count : ℕ

-- what a section says
pub record Section : Type 0 where
  pub summary : Summary
  pub entries : List Entry

unfoldable pub no_section : Section
no_section = record {
  summary = record { origin = nowhere; requirements = 0; may_kill = false; uses = []; lists = no_pairs };
  entries = [];
}

-- the summary of function g, where the sections stand in order
unfoldable pub summary_of : List Section → ℕ → Summary
summary_of done g = (get_or done g no_section).summary
