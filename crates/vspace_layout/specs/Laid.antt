-- The spaces of all domains and all frames: what the layout of spaces answers.
use Rattle.std.specs.Prelude.{ℕ, ◌+◌, ◌*◌, [], ◌∷◌, length}
use Rattle.vspace_layout.specs.Below.{Domain, EndAt, gather}
use Rattle.vspace_layout.specs.declared.mapped.MappedPage.{MappedPage}
use Rattle.vspace_layout.specs.declared.spaces.Page.{Page}
use Rattle.vspace_layout.specs.declared.spaces.Space.{Space}
use Rattle.vspace_layout.specs.declared.spaces.Spaces.{Spaces}
use Rattle.vspace_layout.specs.declared.spaces.ThreadPlace.{ThreadPlace}
use Rattle.vspace_layout.specs.declared.spaces.Window.{Window}
use Rattle.vspace_layout.specs.declared.thread.ThreadOf.{ThreadOf}
use Rattle.vspace_layout.specs.Frames.{frames, number_shown}
use Rattle.vspace_layout.specs.Given.{Given}
use Rattle.vspace_layout.specs.MappedPages.{mapped_pages}
use Rattle.vspace_layout.specs.Regions.{stack_pages, start, threads_of, window_pages, windows_of}

abbrev pub page : Given → ℕ → ℕ → MappedPage → Page
page t d n p = record { vaddr = p.at; frame = number_shown t d n p.shown; write = p.write; read = p.read }

abbrev pub thread_place : Given → ℕ → ℕ → ThreadOf → ThreadPlace
thread_place t d i x = record {
  leaf = x.leaf;
  end = x.end;
  sp = start t d (2 * i) + 4096 * stack_pages t.settled x.leaf;
  buffer = start t d (2 * i + 1);
}

abbrev pub window_at : Given → ℕ → ℕ → EndAt → Window
window_at t d j e = record {
  end = e;
  vaddr = start t d (2 * length (threads_of t d) + j);
  pages = window_pages t.flat t.settled e;
}

abbrev pub space : Given → ℕ → Domain → Space
space t d domain = record {
  pages = gather (λ n p. page t d n p ∷ []) (mapped_pages t d);
  threads = gather (λ i x. thread_place t d i x ∷ []) (threads_of t d);
  windows = gather (λ j e. window_at t d j e ∷ []) (windows_of t d);
}

abbrev pub spaces_of : Given → Spaces
spaces_of t = record { spaces = gather (λ d domain. space t d domain ∷ []) t.flat.domains; frames = frames t }
