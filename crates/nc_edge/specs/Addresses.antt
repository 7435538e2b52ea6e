-- The words that name where a server listens.
use Rattle.std.specs.Prelude.{◌≡◌, ◌≢◌, ◌≤◌, ℕ, List, [], ◌++◌, codes}
use Rattle.std.specs.Fmt.{decimal}
use Rattle.nc_edge.specs.declared.address.Address.{Address}
use Rattle.nc_edge.specs.declared.address.Address.TheVariants.{Unix, Tcp}

-- the highest number of a port
abbrev pub largest_port : ℕ
largest_port = 65535

-- `unix:` and the path of a socket, which is not empty
abbrev pub NamesUnix : (word path : List ℕ) → Type 0
NamesUnix word path = (path ≢ []) × (word ≡ codes "unix:" ++ path)

-- `tcp:` and a port of 127.0.0.1
abbrev pub NamesTcp : (word : List ℕ) → (port : ℕ) → Type 0
NamesTcp word port = (port ≤ largest_port) × (word ≡ codes "tcp:" ++ decimal port)

-- a word that names an address
pub data IsAddress (word : List ℕ) : Type 0 where
  OfUnix : (path : List ℕ) → NamesUnix word path → IsAddress word
  OfTcp : (port : ℕ) → NamesTcp word port → IsAddress word

-- a word names an address
abbrev pub Names : List ℕ → Address → Type 0
Names word (Unix path) = NamesUnix word path.now
Names word (Tcp port) = NamesTcp word port
