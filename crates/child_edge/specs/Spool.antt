-- The names of the files of the spool.
use Rattle.std.specs.Prelude.{◌≡◌, ℕ, List, ◌++◌, codes, string_bytes}
use Rattle.std.specs.Fmt.{decimal}
use Rattle.child_edge.specs.declared.spool.Spooled.{Spooled}

-- the name of a file of a connection: in the folder, by its job, its number, and what it is
abbrev pub file_name : List ℕ → ℕ × ℕ → List ℕ → List ℕ
file_name folder (job, conn) what =
    folder ++ (codes "/" ++ (decimal job ++ (codes "-" ++ (decimal conn ++ (codes "." ++ what)))))

-- the connection's request and its reply have these names
pub record IsNamed (folder : List ℕ) (key : ℕ × ℕ) (files : Spooled) : Type 0 where
  pub request : string_bytes files.request.path ≡ file_name folder key (codes "request")
  pub reply : string_bytes files.reply.path ≡ file_name folder key (codes "reply")
