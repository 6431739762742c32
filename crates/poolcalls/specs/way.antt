pub mod HeapWords
